use Rattle.std.proofs.Common.{arith}
use Rattle.std.proofs.lemmas.Result.{err_from_is_err_and}
use Rattle.der_canon.proofs.OneSize.{size_one}
use Rattle.der_canon.proofs.elements.canonical.Goals as goal

pub returns-in_err-needed-clause-error : goal.returns-in_err-needed-clause-error
returns-in_err-needed-clause-error c =
    let p = err_from_is_err_and c.from_residual-in_err-needed.result c.from_residual-in_err-needed.ensures.1 in
    rw (p.1, p.2) c.in_err-needed.ensures.error

pub returns-in-None-clause-error : goal.returns-in-None-clause-error
returns-in-None-clause-error c =
    let more = rw c.in-None.is at c.in_ok-written-2.ensures.written in
    let same = size_one c.args.octets.now more.0 c.in_ok-needed.needed more.1 c.in_ok-needed.ensures.written.0 in
    absurd (omega (arith, more.2, same))
