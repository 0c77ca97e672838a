use Rattle.std.proofs.Common.{true}
use Rattle.std.proofs.lemmas.Result.{err_from_is_err_and}
use Rattle.x509.proofs.ReaderLaws.{finished, opened, step, stop, type_read, type_shorter, within_whole}
use Rattle.x509.proofs.name.read_relative_name.Goals as goal

pub returns-in_err-attributes : goal.returns-in_err-attributes
returns-in_err-attributes c =
    let q = err_from_is_err_and c.from_residual.result c.from_residual.ensures.1 in
    rw (q.1, q.2) (record { reads = stop (type_read true 17 c.in_err-attributes.ensures); shorter = tt })

pub returns-in_err-check_attributes : goal.returns-in_err-check_attributes
returns-in_err-check_attributes c =
    let q = err_from_is_err_and c.from_residual-in_err-check_attributes.result c.from_residual-in_err-check_attributes.ensures.1 in
    rw (q.1, q.2) (record { reads = opened true 17 c.in_ok-attributes.ensures (λ i. stop (within_whole i c.in_err-check_attributes.ensures)); shorter = tt })

pub returns : goal.returns
returns c = record { reads = opened true 17 c.in_ok-attributes.ensures (λ i. step (within_whole i c.in_ok-check_attributes.ensures) (finished c.remaining.ensures)); shorter = type_shorter true 17 c.in_ok-attributes.ensures }
