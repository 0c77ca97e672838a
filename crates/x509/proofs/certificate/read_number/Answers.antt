use Rattle.std.proofs.Common.{ap, sym, inl, inr, rules}
use Rattle.std.proofs.lemmas.Result.{err_from_is_err_and}
use Rattle.der_values.specs.Kinds.{numbers}
use Rattle.std.proofs.Common.{◌≡◌}
use Rattle.std.specs.Prelude.{pos}
use Rattle.der_base.specs.Numbers.{unsigned}
use Rattle.x509.specs.Certificates.{later_version}
use Rattle.x509.specs.Readers.{fault_of}
use Rattle.x509.proofs.VersionLaws.{not_later}
use Rattle.x509.proofs.ReaderLaws.{finished, not_so, required_read, required_refused, step, stop, value_read}
use Rattle.x509.proofs.certificate.read_number.Goals as goal

pub returns-in_err-number : goal.returns-in_err-number
returns-in_err-number c =
    let q = err_from_is_err_and c.from_residual.result c.from_residual.ensures.1 in
    rw (q.1, q.2) (stop (required_refused (value_read (λ r. numbers r (unsigned 32)) 2 c.in_err-number.ensures)))

pub returns-in-1 : goal.returns-in-1
returns-in-1 c =
    let e : c.in_ok-number.number ≡ 1 = search rules in
    step (required_read (value_read (λ r. numbers r (unsigned 32)) 2 c.in_ok-number.ensures) (inl (ap (λ n. pos n) e))) (finished (sym (ap (λ n. later_version (pos n)) e)))

pub returns-in-2 : goal.returns-in-2
returns-in-2 c =
    let e : c.in_ok-number.number ≡ 2 = search rules in
    step (required_read (value_read (λ r. numbers r (unsigned 32)) 2 c.in_ok-number.ensures) (inr (ap (λ n. pos n) e))) (finished (sym (ap (λ n. later_version (pos n)) e)))

pub returns-in_default : goal.returns-in_default
returns-in_default c = stop (not_so (value_read (λ r. numbers r (unsigned 32)) 2 c.in_ok-number.ensures) (not_later c.in_ok-number.number (search rules) (search rules)) (ap (λ x. fault_of x) c.refuse.ensures))
