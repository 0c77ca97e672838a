use Rattle.std.proofs.Common.{ap, rules}
use Rattle.std.proofs.lemmas.Result.{err_from_is_err_and}
use Rattle.x509.specs.Readers.{fault_of}
use Rattle.x509.proofs.ReaderLaws.{any_read, not_so, required_read, required_refused}
use Rattle.x509_keys.proofs.request.challenge_password.read_directory_string.Goals as goal

pub returns-in_err-element : goal.returns-in_err-element
returns-in_err-element c =
    let q = err_from_is_err_and c.from_residual.result c.from_residual.ensures.1 in
    rw (q.1, q.2) (required_refused (any_read c.in_err-element.ensures))

pub returns-then-not-is_directory_string : goal.returns-then-not-is_directory_string
returns-then-not-is_directory_string c = not_so (any_read c.in_ok-element.ensures) (λ h. let e = c.is_directory_string.ensures.1 h in cc) (ap (λ x. fault_of x) c.refuse.ensures)

pub returns : goal.returns
returns c = required_read (any_read c.in_ok-element.ensures) (c.is_directory_string.ensures.0 (search rules))
