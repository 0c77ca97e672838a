use Rattle.std.proofs.Common.{sym, ◌∙◌}
use Rattle.der_base.specs.Containers.{too_short}
use Rattle.der_values.proofs.LawsLaws.Containers.DerContainers.{short_der_behind, converted_der}
use Rattle.der_combinators.proofs.opening.open_der.Goals as goal

pub returns-in-Err-clause-err : goal.returns-in-Err-clause-err
returns-in-Err-clause-err g c = converted_der _ _ _ c.args.i.now c.in-Err.e c.convert.result c.in-Err.ensures.found c.convert.ensures

pub returns-then-behind-length-clause-err : goal.returns-then-behind-length-clause-err
returns-then-behind-length-clause-err g c =
    let x = c.in-Ok.read in
    let s = short_der_behind c.args.i.now x.0.now x.1 c.in-Ok-definite.length c.in-Ok.ensures.found (sym c.length.ensures ∙ c.in-Ok-definite.ensures) c.if-behind-length.true in
    too_short s c.from_error_kind.ensures
