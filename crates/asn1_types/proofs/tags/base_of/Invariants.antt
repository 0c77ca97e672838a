use Rattle.asn1_types.specs.Tagging.{LeadsTo, base_at}
use Rattle.asn1_types.specs.declared.tags.Base.{Base}
use Rattle.asn1_types.proofs.tags.base_of.Given as goal

-- what is led to from here is led to from the start
abbrev pub invariant-steps : goal.invariant-steps
invariant-steps l = (b : Base) → LeadsTo l.items l.base b → LeadsTo l.items (base_at l.start) b
