use Rattle.std.proofs.Common.{true, refl}
use Rattle.std.proofs.lemmas.Result.{err_from_is_err_and}
use Rattle.der_values.specs.Kinds.{bit_strings}
use Rattle.x509.proofs.ReaderLaws.{end_read, finished, opened, step, stop, type_read, value_read, within}
use Rattle.x509.proofs.algorithm.read_key_info.Goals as goal

pub returns-in_err-parts : goal.returns-in_err-parts
returns-in_err-parts c =
    let q = err_from_is_err_and c.from_residual.result c.from_residual.ensures.1 in
    rw (q.1, q.2) (stop (type_read true 16 c.in_err-parts.ensures))

pub returns-in_err-algorithm : goal.returns-in_err-algorithm
returns-in_err-algorithm c =
    let q = err_from_is_err_and c.from_residual-in_err-algorithm.result c.from_residual-in_err-algorithm.ensures.1 in
    rw (q.1, q.2) (opened true 16 c.in_ok-parts.ensures (λ i. within i (stop (c.in_err-algorithm.ensures))))

pub returns-in_err-subject_public_key : goal.returns-in_err-subject_public_key
returns-in_err-subject_public_key c =
    let q = err_from_is_err_and c.from_residual-in_err-subject_public_key.result c.from_residual-in_err-subject_public_key.ensures.1 in
    rw (q.1, q.2) (opened true 16 c.in_ok-parts.ensures (λ i. within i (step (c.in_ok-algorithm.ensures) (stop (value_read (λ r. bit_strings r) 3 c.in_err-subject_public_key.ensures)))))

pub returns-in_err-end : goal.returns-in_err-end
returns-in_err-end c =
    let q = err_from_is_err_and c.from_residual-in_err-end.result c.from_residual-in_err-end.ensures.1 in
    rw (q.1, q.2) (opened true 16 c.in_ok-parts.ensures (λ i. within i (step (c.in_ok-algorithm.ensures) (step (value_read (λ r. bit_strings r) 3 c.in_ok-subject_public_key.ensures) (stop (end_read c.in_err-end.ensures))))))

pub returns : goal.returns
returns c = opened true 16 c.in_ok-parts.ensures (λ i. within i (step (c.in_ok-algorithm.ensures) (step (value_read (λ r. bit_strings r) 3 c.in_ok-subject_public_key.ensures) (step (end_read c.in_ok-end.ensures) (finished refl)))))
