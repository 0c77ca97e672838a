use Rattle.std.proofs.Common.{true, refl}
use Rattle.std.proofs.lemmas.Result.{err_from_is_err_and}
use Rattle.der_values.specs.Kinds.{integers}
use Rattle.x509.proofs.ReaderLaws.{end_read, finished, opened, step, stop, type_read, type_shorter, value_read, within}
use Rattle.x509.proofs.crl.entry.read_revoked_certificate.Goals as goal

pub returns-in_err-parts : goal.returns-in_err-parts
returns-in_err-parts c =
    let q = err_from_is_err_and c.from_residual.result c.from_residual.ensures.1 in
    rw (q.1, q.2) (record { reads = stop (type_read true 16 c.in_err-parts.ensures); shorter = tt })

pub returns-in_err-user_certificate : goal.returns-in_err-user_certificate
returns-in_err-user_certificate c =
    let q = err_from_is_err_and c.from_residual-in_err-user_certificate.result c.from_residual-in_err-user_certificate.ensures.1 in
    rw (q.1, q.2) (record { reads = opened true 16 c.in_ok-parts.ensures (λ i. within i (stop (value_read (λ r. integers r) 2 c.in_err-user_certificate.ensures))); shorter = tt })

pub returns-in_err-revocation_date : goal.returns-in_err-revocation_date
returns-in_err-revocation_date c =
    let q = err_from_is_err_and c.from_residual-in_err-revocation_date.result c.from_residual-in_err-revocation_date.ensures.1 in
    rw (q.1, q.2) (record { reads = opened true 16 c.in_ok-parts.ensures (λ i. within i (step (value_read (λ r. integers r) 2 c.in_ok-user_certificate.ensures) (stop (c.in_err-revocation_date.ensures)))); shorter = tt })

pub returns-in_err-crl_entry_extensions : goal.returns-in_err-crl_entry_extensions
returns-in_err-crl_entry_extensions c =
    let q = err_from_is_err_and c.from_residual-in_err-crl_entry_extensions.result c.from_residual-in_err-crl_entry_extensions.ensures.1 in
    rw (q.1, q.2) (record { reads = opened true 16 c.in_ok-parts.ensures (λ i. within i (step (value_read (λ r. integers r) 2 c.in_ok-user_certificate.ensures) (step (c.in_ok-revocation_date.ensures) (stop (c.in_err-crl_entry_extensions.ensures))))); shorter = tt })

pub returns-in_err-end : goal.returns-in_err-end
returns-in_err-end c =
    let q = err_from_is_err_and c.from_residual-in_err-end.result c.from_residual-in_err-end.ensures.1 in
    rw (q.1, q.2) (record { reads = opened true 16 c.in_ok-parts.ensures (λ i. within i (step (value_read (λ r. integers r) 2 c.in_ok-user_certificate.ensures) (step (c.in_ok-revocation_date.ensures) (step (c.in_ok-crl_entry_extensions.ensures) (stop (end_read c.in_err-end.ensures)))))); shorter = tt })

pub returns : goal.returns
returns c = record { reads = opened true 16 c.in_ok-parts.ensures (λ i. within i (step (value_read (λ r. integers r) 2 c.in_ok-user_certificate.ensures) (step (c.in_ok-revocation_date.ensures) (step (c.in_ok-crl_entry_extensions.ensures) (step (end_read c.in_ok-end.ensures) (finished refl)))))); shorter = type_shorter true 16 c.in_ok-parts.ensures }
