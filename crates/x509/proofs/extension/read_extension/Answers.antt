use Rattle.std.proofs.Common.{true, refl}
use Rattle.std.proofs.lemmas.Result.{err_from_is_err_and}
use Rattle.der_values.specs.Kinds.{identifiers, octet_strings}
use Rattle.x509.proofs.ReaderLaws.{boolean_read, end_read, finished, opened, step, stop, type_read, type_shorter, value_read, within}
use Rattle.x509.proofs.extension.read_extension.Goals as goal

pub returns-in_err-parts : goal.returns-in_err-parts
returns-in_err-parts c =
    let q = err_from_is_err_and c.from_residual.result c.from_residual.ensures.1 in
    rw (q.1, q.2) (record { reads = stop (type_read true 16 c.in_err-parts.ensures); shorter = tt })

pub returns-in_err-identifier : goal.returns-in_err-identifier
returns-in_err-identifier c =
    let q = err_from_is_err_and c.from_residual-in_err-identifier.result c.from_residual-in_err-identifier.ensures.1 in
    rw (q.1, q.2) (record { reads = opened true 16 c.in_ok-parts.ensures (λ i. within i (stop (value_read (λ r. identifiers) 6 c.in_err-identifier.ensures))); shorter = tt })

pub returns-in_err-critical : goal.returns-in_err-critical
returns-in_err-critical c =
    let q = err_from_is_err_and c.from_residual-in_err-critical.result c.from_residual-in_err-critical.ensures.1 in
    rw (q.1, q.2) (record { reads = opened true 16 c.in_ok-parts.ensures (λ i. within i (step (value_read (λ r. identifiers) 6 c.in_ok-identifier.ensures) (stop (boolean_read c.in_err-critical.ensures)))); shorter = tt })

pub returns-in_err-value : goal.returns-in_err-value
returns-in_err-value c =
    let q = err_from_is_err_and c.from_residual-in_err-value.result c.from_residual-in_err-value.ensures.1 in
    rw (q.1, q.2) (record { reads = opened true 16 c.in_ok-parts.ensures (λ i. within i (step (value_read (λ r. identifiers) 6 c.in_ok-identifier.ensures) (step (boolean_read c.in_ok-critical.ensures) (stop (value_read (λ r. octet_strings) 4 c.in_err-value.ensures))))); shorter = tt })

pub returns-in_err-end : goal.returns-in_err-end
returns-in_err-end c =
    let q = err_from_is_err_and c.from_residual-in_err-end.result c.from_residual-in_err-end.ensures.1 in
    rw (q.1, q.2) (record { reads = opened true 16 c.in_ok-parts.ensures (λ i. within i (step (value_read (λ r. identifiers) 6 c.in_ok-identifier.ensures) (step (boolean_read c.in_ok-critical.ensures) (step (value_read (λ r. octet_strings) 4 c.in_ok-value.ensures) (stop (end_read c.in_err-end.ensures)))))); shorter = tt })

pub returns : goal.returns
returns c = record { reads = opened true 16 c.in_ok-parts.ensures (λ i. within i (step (value_read (λ r. identifiers) 6 c.in_ok-identifier.ensures) (step (boolean_read c.in_ok-critical.ensures) (step (value_read (λ r. octet_strings) 4 c.in_ok-value.ensures) (step (end_read c.in_ok-end.ensures) (finished refl)))))); shorter = type_shorter true 16 c.in_ok-parts.ensures }
