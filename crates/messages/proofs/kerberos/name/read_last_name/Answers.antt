use Rattle.messages.specs.Kerberos.Requests.{NameFields}
use Rattle.der_cursor.proofs.OpenedLaws.{in_sequence, not_within, within}
use Rattle.messages.proofs.kerberos.name.read_last_name.Goals as goal

pub returns-in_err-fields : goal.returns-in_err-fields
returns-in_err-fields c = not_within (in_sequence NameFields) _ c.in_err-fields.ensures c.from_residual.ensures.1

pub returns : goal.returns
returns c = within (in_sequence NameFields) _ c.in_ok-fields.ensures c.read_name.ensures
