use Rattle.der_cursor.proofs.FormatLaws.{value_read}
use Rattle.der_cursor.proofs.FieldLaws.{field_left, field_read, field_stops, field_unopened}
use Rattle.messages.proofs.kerberos.fields.read_realm.Goals as goal

pub returns-in_err-field : goal.returns-in_err-field
returns-in_err-field c = field_unopened _ c.in_err-field.ensures c.from_residual.ensures.1

pub returns-in_err-realm : goal.returns-in_err-realm
returns-in_err-realm c = field_stops c.in_ok-field.ensures (value_read _ c.in_err-realm.ensures) c.from_residual-in_err-realm.ensures.1

pub returns-in_err-end : goal.returns-in_err-end
returns-in_err-end c = field_left _ c.in_ok-field.ensures (value_read _ c.in_ok-realm.ensures) c.in_err-end.ensures.0 c.from_residual-in_err-end.ensures.1

pub returns : goal.returns
returns c = field_read c.in_ok-field.ensures (value_read _ c.in_ok-realm.ensures) c.in_ok-end.ensures
