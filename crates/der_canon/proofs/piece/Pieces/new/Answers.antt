use Rattle.std.proofs.Common.{refl}
use Rattle.der_canon.specs.NoDer.{none}
use Rattle.der_canon.proofs.piece.Pieces.new.Goals as goal

pub returns-clause-read : goal.returns-clause-read
returns-clause-read c = record { walk = c.new.ensures; parts = tt; have = none refl }
