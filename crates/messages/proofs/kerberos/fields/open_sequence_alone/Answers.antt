use Rattle.der_cursor.proofs.FormatLaws.{kept_read}
use Rattle.der_cursor.proofs.Sequences.{only_left, only_stops}
use Rattle.der_cursor.proofs.OpenedLaws.{opens_nothing, opens_sequence}
use Rattle.messages.proofs.kerberos.fields.open_sequence_alone.Goals as goal

pub returns-in_err-inside : goal.returns-in_err-inside
returns-in_err-inside c = opens_nothing (only_stops (kept_read 16 c.in_err-inside.ensures)) c.from_residual.ensures.1

pub returns-in_err-end : goal.returns-in_err-end
returns-in_err-end c = opens_nothing (only_left (kept_read 16 c.in_ok-inside.ensures) c.in_err-end.ensures.0) c.from_residual-in_err-end.ensures.1

pub returns : goal.returns
returns c = opens_sequence c.in_ok-inside.ensures c.in_ok-end.ensures
