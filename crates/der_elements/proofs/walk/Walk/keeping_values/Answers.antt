use Rattle.std.proofs.Common.{refl}
use Rattle.der_elements.proofs.Walks.{nothing_walked}
use Rattle.der_elements.proofs.walk.Walk.keeping_values.Goals as goal

pub returns : goal.returns
returns c = λ x r i has. record { input = has.input; enters = has.enters; keeps = refl; depth = has.depth; walked = nothing_walked _ has.walked refl; counts = has.counts; counts_around = has.counts_around; end = has.end; ends_around = has.ends_around; few = has.few }
