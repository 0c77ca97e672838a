use Rattle.std.proofs.lemmas.Result.{err_from_is_err_and}
use Rattle.der_uses.proofs.ObjectLaws.{finds, finds_none}
use Rattle.der_uses.proofs.shown.first_object.Goals as goal

pub returns-in_err-_rest : goal.returns-in_err-_rest
returns-in_err-_rest c =
    let q = err_from_is_err_and c.from_residual.result c.from_residual.ensures.1 in
    rw (q.1, q.2) (finds_none c.args.input.now _ c.in_err-_rest.ensures.exactly)

pub returns : goal.returns
returns c = finds c.args.input.now _ _ _ c.in_ok-_rest.ensures.exactly c.kind_of.ensures
