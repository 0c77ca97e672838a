use Rattle.std.proofs.lemmas.Result.{err_from_is_err_and}
use Rattle.der_base.proofs.Headers.HeaderLaws.{identifier_answered, length_answered}
use Rattle.der_base.proofs.Headers.BerHeaders.{laws}
use Rattle.der_base.proofs.header.read_any_ber_header.Goals as goal

pub returns-in_err-rest : goal.returns-in_err-rest
returns-in_err-rest c =
    let p = err_from_is_err_and c.from_residual.result c.from_residual.ensures.1 in
    rw (p.1, p.2) (identifier_answered laws _ _ c.args.i.now c.in_err-rest.field-0.0 c.in_err-rest.ensures)

pub returns-in_err-rest-2 : goal.returns-in_err-rest-2
returns-in_err-rest-2 c =
    let x = c.in_ok-rest in
    let p = err_from_is_err_and c.from_residual-in_err-rest-2.result c.from_residual-in_err-rest-2.ensures.1 in
    rw (p.1, p.2) (length_answered laws _ _ c.args.i.now x.rest.now x.identifier c.in_err-rest-2.field-0.0
    x.ensures c.in_err-rest-2.ensures)
