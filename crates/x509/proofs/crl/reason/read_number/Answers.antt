use Rattle.std.proofs.lemmas.Result.{err_from_is_err_and}
use Rattle.der_cursor.proofs.FormatLaws.{value_read}
use Rattle.der_cursor.specs.Formats.{Enumerated}
use Rattle.x509.specs.Crl.Reasons.{number_of}
use Rattle.x509.proofs.CrlLaws.ReasonLaws.{name_read, name_stops, no_name, same_number}
use Rattle.std.proofs.Common.{sym, ◌∙◌}
use Rattle.x509.proofs.crl.reason.read_number.Goals as goal

pub returns-in_err-number : goal.returns-in_err-number
returns-in_err-number c =
    let q = err_from_is_err_and c.from_residual.result c.from_residual.ensures.1 in
    rw (q.1, q.2) (name_stops number_of Enumerated (value_read _ c.in_err-number.ensures))

pub returns-in_default : goal.returns-in_default
returns-in_default c = no_name number_of Enumerated c.in_default.ensures (value_read _ c.in_ok-number.ensures)

pub returns : goal.returns
returns c = name_read number_of Enumerated c.in-Some.ensures (λ w e. same_number _ w (e ∙ sym c.in-Some.ensures)) (value_read _ c.in_ok-number.ensures)
