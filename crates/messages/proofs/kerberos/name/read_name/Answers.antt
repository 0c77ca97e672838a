use Rattle.std.proofs.Common.{refl, rules}
use Rattle.std.specs.Borrow.{Bor}
use Rattle.std.specs.Prelude.{ℕ, List, map}
use Rattle.der_base.specs.declared.header.Class.TheVariants.{ContextSpecific}
use Rattle.der_cursor.proofs.FormatLaws.{required_takes}
use Rattle.der_cursor.proofs.Lists.{all_read}
use Rattle.der_cursor.proofs.Sequences.{after, may_need, rest_read, start, stops_never}
use Rattle.der_cursor.specs.Formats.{Each, NoMemory, Required}
use Rattle.messages.specs.Kerberos.Requests.{KerberosString}
use Rattle.der_cursor.proofs.FieldLaws.{passed}
use Rattle.der_cursor.proofs.OpenedLaws.{in_tag, not_within, within}
use Rattle.messages.proofs.KerberosLaws.Laws.{content_gives, content_stops}
use Rattle.messages.proofs.kerberos.name.read_name.Goals as goal

abbrev text : Bor (List ℕ) → List ℕ
text t = t.now

pub returns-in_err-read_name_kind : goal.returns-in_err-read_name_kind
returns-in_err-read_name_kind c = λ fresh. stops_never _ (start _ fresh) (passed c.in_err-read_name_kind.ensures) c.from_residual.ensures.1

pub returns-in_err-texts : goal.returns-in_err-texts
returns-in_err-texts c = λ fresh. rest_read {part = λ p. map text p.0.items} _ (λ x. refl) (after (start _ fresh) (passed c.in_ok-read_name_kind.ensures))
    (not_within (in_tag ContextSpecific 1 (Each (Required KerberosString))) _ c.in_err-texts.ensures c.from_residual-in_err-texts.ensures.1)

pub returns-in_err-components : goal.returns-in_err-components
returns-in_err-components c = λ fresh. rest_read {part = λ p. map text p.0.items} _ (λ x. refl) (after (start _ fresh) (passed c.in_ok-read_name_kind.ensures))
    (within (in_tag ContextSpecific 1 (Each (Required KerberosString))) _ c.in_ok-texts.ensures
    (content_stops (Each (Required KerberosString)) c.in_ok-texts.texts _ (all_read (Required KerberosString) text (required_takes KerberosString)
    (λ f g a b r s. may_need NoMemory r (search rules)) _ _ _ _ c.in_err-components.ensures) c.from_residual-in_err-components.ensures.1))

pub returns : goal.returns
returns c = λ fresh. rest_read {part = λ p. map text p.0.items} _ (λ x. refl) (after (start _ fresh) (passed c.in_ok-read_name_kind.ensures))
    (within (in_tag ContextSpecific 1 (Each (Required KerberosString))) _ c.in_ok-texts.ensures
    (content_gives (Each (Required KerberosString)) c.in_ok-texts.texts c.in_ok-components.components refl (all_read (Required KerberosString) text (required_takes KerberosString)
    (λ f g a b r s. may_need NoMemory r (search rules)) (λ i k e. Unit {0}) _ _ _ c.in_ok-components.ensures)))
