use Rattle.der_cursor.proofs.FieldLaws.{field_ends, field_stops, field_unopened}
use Rattle.messages.proofs.kerberos.fields.check_number.Goals as goal

pub returns-in_err-field : goal.returns-in_err-field
returns-in_err-field c = field_unopened _ c.in_err-field.ensures c.from_residual.ensures.1

pub returns-in_err-check_value : goal.returns-in_err-check_value
returns-in_err-check_value c = field_stops c.in_ok-field.ensures c.in_err-check_value.ensures c.from_residual-in_err-check_value.ensures.1

pub returns : goal.returns
returns c = field_ends _ c.in_ok-field.ensures c.in_ok-check_value.ensures c.end.ensures
