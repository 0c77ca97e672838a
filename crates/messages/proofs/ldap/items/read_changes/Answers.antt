use Rattle.std.proofs.Common.{rules}
use Rattle.der_cursor.specs.Formats.{Required}
use Rattle.der_cursor.proofs.FormatLaws.{inside, required_takes}
use Rattle.der_cursor.proofs.Lists.{all_read}
use Rattle.der_cursor.proofs.Sequences.{refused_open}
use Rattle.messages.specs.Ldap.Messages.{Change, change_of}
use Rattle.messages.proofs.ldap.items.read_changes.Goals as goal

pub returns-in_err-open_sequence : goal.returns-in_err-open_sequence
returns-in_err-open_sequence c = refused_open _ _ c.in_err-open_sequence.ensures c.from_residual.ensures.1

pub returns : goal.returns
returns c = inside _ _ c.in_ok-open_sequence.ensures (all_read (Required Change) change_of (required_takes Change) (λ f g a b r s. search rules) _ _ _ _ c.read_all.ensures)
