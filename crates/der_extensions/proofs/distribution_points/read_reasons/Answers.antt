use Rattle.std.proofs.Common.{rules}
use Rattle.std.proofs.lemmas.Result.{err_from_is_err_and}
use Rattle.der_cursor.specs.Formats.{BitString, Implicit}
use Rattle.der_extensions.specs.Extensions.{IsShortest}
use Rattle.x509.specs.Certificates.{bits_of}
use Rattle.der_extensions.proofs.PointLaws.{limited_absent, limited_refused, limited_there, limited_unread}
use Rattle.der_extensions.proofs.distribution_points.read_reasons.Goals as goal

pub returns-in_err-bits : goal.returns-in_err-bits
returns-in_err-bits c =
    let q = err_from_is_err_and c.from_residual.result c.from_residual.ensures.1 in
    rw (q.1, q.2) (limited_unread IsShortest (Implicit c.args.number BitString) c.in_err-bits.ensures)

pub returns-in_default : goal.returns-in_default
returns-in_default c =
    let read = rw c.in_default.is at c.in_ok-bits.ensures in
    limited_absent IsShortest (Implicit c.args.number BitString) {view = bits_of} read

pub returns-then-not-is_shortest : goal.returns-then-not-is_shortest
returns-then-not-is_shortest c =
    let read = rw c.in-Some.is at c.in_ok-bits.ensures in
    limited_refused IsShortest (Implicit c.args.number BitString) {view = bits_of} (λ h. let e = c.is_shortest.ensures.1 h in cc) read

pub returns : goal.returns
returns c =
    let read = rw c.in-Some.is at c.in_ok-bits.ensures in
    limited_there IsShortest (Implicit c.args.number BitString) (c.is_shortest.ensures.0 (search rules)) read
