use Rattle.std.proofs.Common.{true, refl, ap}
use Rattle.std.proofs.lemmas.Result.{err_from_is_err_and}
use Rattle.der_values.specs.Kinds.{borrowed_octets, identifiers}
use Rattle.x509.proofs.ReaderLaws.{finish_whole, opened, step_whole, stop, stop_whole, type_read, value_read, whole, within_whole}
use Rattle.x509.proofs.algorithm.read_algorithm.Goals as goal

pub returns-in_err-parts : goal.returns-in_err-parts
returns-in_err-parts c =
    let q = err_from_is_err_and c.from_residual.result c.from_residual.ensures.1 in
    rw (q.1, q.2) (stop (type_read true 16 c.in_err-parts.ensures))

pub returns-in_err-algorithm : goal.returns-in_err-algorithm
returns-in_err-algorithm c =
    let q = err_from_is_err_and c.from_residual-in_err-algorithm.result c.from_residual-in_err-algorithm.ensures.1 in
    rw (q.1, q.2) (opened true 16 c.in_ok-parts.ensures (λ i. within_whole i (whole (stop (value_read (λ r. identifiers) 6 c.in_err-algorithm.ensures)))))

pub returns-in_err-read_parameters : goal.returns-in_err-read_parameters
returns-in_err-read_parameters c =
    let q = err_from_is_err_and c.from_residual-in_err-read_parameters.result c.from_residual-in_err-read_parameters.ensures.1 in
    rw (q.1, q.2) (opened true 16 c.in_ok-parts.ensures (λ i. within_whole i (step_whole (value_read (λ r. identifiers) 6 c.in_ok-algorithm.ensures) (stop_whole c.in_err-read_parameters.ensures))))

pub returns : goal.returns
returns c =
    opened true 16 c.in_ok-parts.ensures (λ i. within_whole i (step_whole (value_read (λ r. identifiers) 6 c.in_ok-algorithm.ensures)
    (finish_whole c.in_ok-read_parameters.ensures (λ m. (ap (λ x. record { algorithm = borrowed_octets c.in_ok-algorithm.algorithm; parameters = x }) c.remaining-parameters.ensures, refl)))))
