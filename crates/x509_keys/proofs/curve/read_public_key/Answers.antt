use Rattle.x509_keys.proofs.NameLaws.{passed, tag_absent, tag_read, tag_stops, tag_unopened}
use Rattle.x509_keys.proofs.curve.read_public_key.Goals as goal

pub returns-in_err-field : goal.returns-in_err-field
returns-in_err-field c = passed c.from_residual.ensures.1 (tag_unopened 1 c.in_err-field.ensures)

pub returns-in_err-read_last_bits-in-Some : goal.returns-in_err-read_last_bits-in-Some
returns-in_err-read_last_bits-in-Some c = passed c.from_residual-in_err-read_last_bits-in-Some.ensures.1 (tag_stops 1 (rw c.in-Some.is at c.in_ok-field.ensures) c.in_err-read_last_bits-in-Some.ensures)

pub returns-in_ok-read_last_bits-in-Some : goal.returns-in_ok-read_last_bits-in-Some
returns-in_ok-read_last_bits-in-Some c = tag_read 1 (rw c.in-Some.is at c.in_ok-field.ensures) c.in_ok-read_last_bits-in-Some.ensures

pub returns-in-None : goal.returns-in-None
returns-in-None c = tag_absent 1 (rw c.in-None.is at c.in_ok-field.ensures)
