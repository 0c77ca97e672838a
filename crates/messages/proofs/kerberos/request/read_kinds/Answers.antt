use Rattle.std.proofs.Common.{rules, sym}
use Rattle.std.specs.Prelude.{ℤ}
use Rattle.std.proofs.lemmas.List.{map-id}
use Rattle.der_cursor.proofs.FormatLaws.{inside_of, required_takes}
use Rattle.der_cursor.proofs.Lists.{all_read}
use Rattle.der_cursor.proofs.Sequences.{may_need}
use Rattle.der_cursor.specs.Formats.{Each, NoMemory, Required}
use Rattle.messages.specs.Kerberos.Requests.{Int32}
use Rattle.der_cursor.proofs.FieldLaws.{field_unopened, viewed}
use Rattle.der_cursor.proofs.OpenedLaws.{in_sequence, not_within, within}
use Rattle.messages.proofs.kerberos.request.read_kinds.Goals as goal

pub returns-in_err-field : goal.returns-in_err-field
returns-in_err-field c = field_unopened _ c.in_err-field.ensures c.from_residual.ensures.1

pub returns-in_err-kinds : goal.returns-in_err-kinds
returns-in_err-kinds c = inside_of _ c.in_ok-field.ensures (not_within (in_sequence (Each (Required Int32))) _ c.in_err-kinds.ensures c.from_residual-in_err-kinds.ensures.1)

pub returns : goal.returns
returns c = viewed _ (λ v. sym (map-id v.items)) (inside_of _ c.in_ok-field.ensures
    (within (in_sequence (Each (Required Int32))) _ c.in_ok-kinds.ensures (all_read (Required Int32) (λ (n : ℤ). n) (required_takes Int32) (λ f g a b r s. may_need NoMemory r (search rules))
    _ _ _ _ c.read_all.ensures)))
