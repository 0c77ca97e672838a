use Rattle.der_cursor.proofs.FormatLaws.{inside_of}
use Rattle.der_cursor.proofs.FieldLaws.{field_unopened}
use Rattle.messages.proofs.kerberos.fields.read_till.Goals as goal

pub returns-in_err-open_field : goal.returns-in_err-open_field
returns-in_err-open_field c = field_unopened _ c.in_err-open_field.ensures c.from_residual.ensures.1

pub returns : goal.returns
returns c = inside_of _ c.in_ok-open_field.ensures c.read_last_time.ensures
