use Rattle.std.proofs.Common.{refl, rules}
use Rattle.der_cursor.specs.Formats.{Never, NoMemory, OctetString, ReadsField, Required}
use Rattle.der_cursor.proofs.FormatLaws.{required_takes}
use Rattle.der_cursor.proofs.Lists.{all_read}
use Rattle.der_cursor.proofs.Sequences.{content_as, content_named_in, may_need, no_content_as}
use Rattle.messages.specs.Ldap.Messages.{Texts}
use Rattle.messages.proofs.ldap.reader.read_references.Goals as goal

pub returns-in_err-uris : goal.returns-in_err-uris
returns-in_err-uris c = no_content_as _ Texts c.args.list _ c.from_residual.ensures.1
    (content_named_in _ Texts c.args.list (all_read (Required OctetString) (λ x. x.now) (required_takes OctetString)
    (λ f g a b r s. let h : ReadsField (Required OctetString) (λ x. x.now) Never a.now r b.now = search rules in may_need NoMemory r h) _ _ _ _ c.read_all.ensures) c.in_err-uris.ensures)

pub returns : goal.returns
returns c = content_as _ Texts c.args.list refl
    (content_named_in _ Texts c.args.list (all_read (Required OctetString) (λ x. x.now) (required_takes OctetString)
    (λ f g a b r s. let h : ReadsField (Required OctetString) (λ x. x.now) Never a.now r b.now = search rules in may_need NoMemory r h) _ _ _ _ c.read_all.ensures) c.in_ok-uris.ensures)
