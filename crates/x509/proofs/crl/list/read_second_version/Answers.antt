use Rattle.std.proofs.Common.{◌≡◌, ap, refl, rules}
use Rattle.std.proofs.lemmas.Result.{err_from_is_err_and}
use Rattle.std.specs.Prelude.{pos}
use Rattle.der_base.specs.Numbers.{unsigned}
use Rattle.der_values.specs.Kinds.{numbers}
use Rattle.x509.proofs.CrlLaws.CrlLaws.{not_second}
use Rattle.x509.specs.Readers.{fault_of}
use Rattle.x509.proofs.ReaderLaws.{finished, not_so, required_read, required_refused, step, stop, value_read}
use Rattle.x509.proofs.crl.list.read_second_version.Goals as goal

pub returns-in_err-number : goal.returns-in_err-number
returns-in_err-number c =
    let q = err_from_is_err_and c.from_residual.result c.from_residual.ensures.1 in
    rw (q.1, q.2) (stop (required_refused (value_read (λ r. numbers r (unsigned 32)) 2 c.in_err-number.ensures)))

pub returns-then-number-ne1 : goal.returns-then-number-ne1
returns-then-number-ne1 c = stop (not_so (value_read (λ r. numbers r (unsigned 32)) 2 c.in_ok-number.ensures) (not_second c.in_ok-number.number (search rules)) (ap (λ x. fault_of x) c.refuse.ensures))

pub returns : goal.returns
returns c =
    let e : c.in_ok-number.number ≡ 1 = search rules in
    step (required_read (value_read (λ r. numbers r (unsigned 32)) 2 c.in_ok-number.ensures) (ap (λ n. pos n) e)) (finished refl)
