use Rattle.asn1_types.specs.Looks.{LooksAs, LooksFrom}
use Rattle.asn1_types.specs.declared.look.Look.{Look}
use Rattle.asn1_types.proofs.look.look_of.Given as goal

-- what looks so from here on looks so from the start
abbrev pub invariant-steps : goal.invariant-steps
invariant-steps l = (m : Look) → LooksFrom l.items l.base l.look m → LooksAs l.items l.start m
