use Rattle.std.proofs.Common.{map}
use Rattle.std.specs.List.{flat_map}
use Rattle.c_values.specs.Texts.{PutsText}
use Rattle.dumarewhi_c.specs.DottedTexts.{groups_if_arc}
use Rattle.dumarewhi_c.proofs.identifier.put_others.Given as goal

-- the arcs so far were put
abbrev pub invariant-loop-component : goal.invariant-loop-component
invariant-loop-component l = PutsText l.fn.octets l.fn.at (flat_map groups_if_arc (map (λ x. x.now) l.yielded)) l.octets l.end
