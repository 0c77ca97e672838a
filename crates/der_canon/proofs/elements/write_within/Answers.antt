use Rattle.std.proofs.Common.{◌≡◌, ◌≤◌, ◌++◌, length, take, drop, take-take, sym, subst, ◌∙◌, arith}
use Rattle.std.proofs.lemmas.List.{take-append-le}
use Rattle.std.proofs.lemmas.Result.{err_from_is_err_and}
use Rattle.der_canon.specs.Written.{IsDerOf}
use Rattle.der_canon.proofs.elements.write_within.Goals as goal

pub returns-clause-written : goal.returns-clause-written
returns-clause-written c =
    let out = c.canonical_into.new.out in
    let n = c.in_ok-needed.needed in
    let written = c.in_ok-written.written in
    let more = drop (length out) written.items in
    let fits : n ≤ length out = omega (arith, c.deref_mut.ensures.len, c.in_ok-written.ensures.len) in
    let same : c.truncate.new.self.items ≡ take n out = c.truncate.ensures.items ∙ take-take n written.len (out ++ more) (omega arith) ∙ take-append-le n out more fits in
    subst (λ l. IsDerOf c.args.octets.now l) (sym same) (c.in_ok-needed.ensures.written.1 fits)

pub returns-in_err-written-clause-error : goal.returns-in_err-written-clause-error
returns-in_err-written-clause-error c =
    let p = err_from_is_err_and c.from_residual.result c.from_residual.ensures.1 in
    rw (p.1, p.2) tt

pub returns-in_err-needed-clause-error : goal.returns-in_err-needed-clause-error
returns-in_err-needed-clause-error c =
    let p = err_from_is_err_and c.from_residual-in_err-needed.result c.from_residual-in_err-needed.ensures.1 in
    rw (p.1, p.2) c.in_err-needed.ensures.error
