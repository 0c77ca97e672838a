use Rattle.der_cursor.proofs.OpenedLaws.{not_opened, opened_left, opens_in, opens_nothing}
use Rattle.messages.proofs.kerberos.fields.open_last.Goals as goal

pub returns-in_err-inside : goal.returns-in_err-inside
returns-in_err-inside c = opens_nothing (not_opened _ c.in_err-inside.ensures) c.from_residual.ensures.1

pub returns-in_err-end : goal.returns-in_err-end
returns-in_err-end c = opens_nothing (opened_left _ c.in_ok-inside.ensures c.in_err-end.ensures.0) c.from_residual-in_err-end.ensures.1

pub returns : goal.returns
returns c = opens_in _ c.in_ok-inside.ensures c.in_ok-end.ensures c.open_sequence_alone.ensures
