use Rattle.std.proofs.Common.{rules}
use Rattle.der_cursor.specs.Formats.{Never, NoMemory, OctetString, ReadsField, Required}
use Rattle.der_cursor.proofs.FormatLaws.{inside, required_takes}
use Rattle.der_cursor.proofs.Lists.{all_read}
use Rattle.der_cursor.proofs.Sequences.{may_need, refused_open}
use Rattle.messages.proofs.ldap.items.read_texts.Goals as goal

pub returns-in_err-open_sequence : goal.returns-in_err-open_sequence
returns-in_err-open_sequence c = refused_open _ _ c.in_err-open_sequence.ensures c.from_residual.ensures.1

pub returns : goal.returns
returns c = inside _ _ c.in_ok-open_sequence.ensures (all_read (Required OctetString) (λ x. x.now) (required_takes OctetString)
    (λ f g a b r s. let h : ReadsField (Required OctetString) (λ x. x.now) Never a.now r b.now = search rules in may_need NoMemory r h) _ _ _ _ c.read_all.ensures)
