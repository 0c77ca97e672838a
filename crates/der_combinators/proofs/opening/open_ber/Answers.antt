use Rattle.der_base.specs.Containers.{too_short}
use Rattle.der_values.proofs.LawsLaws.Containers.BerContainers.{converted}
use Rattle.der_combinators.proofs.opening.open_ber.Goals as goal

pub returns-in-Some-clause-err : goal.returns-in-Some-clause-err
returns-in-Some-clause-err g c = too_short c.in-Some.ensures c.from_error_kind.ensures

pub returns-in-None-clause-err : goal.returns-in-None-clause-err
returns-in-None-clause-err g c = converted _ _ _ c.args.i.now c.in-Err.e c.convert.result c.in-Err.ensures.found c.in-None.ensures c.convert.ensures
