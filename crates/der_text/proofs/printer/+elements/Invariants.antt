use Rattle.std.proofs.Common.{◌+◌, ◌*◌, ◌-◌, length}
use Rattle.der_text.specs.Looks.{ElementsText, ToEndText}
use Rattle.der_text.specs.Printed.{Prints}
use Rattle.der_text.proofs.Looks.{SoFar}
use Rattle.der_text.proofs.printer.+elements.Given as goal

abbrev pub decreases-write_elements : goal.decreases-write_elements
decreases-write_elements l = 4 * (100 - l.depth) + 3

abbrev pub decreases-write_to_end : goal.decreases-write_to_end
decreases-write_to_end l = 4 * (100 - l.depth) + 3

abbrev pub decreases-write_element : goal.decreases-write_element
decreases-write_element l = 4 * (100 - l.depth) + 2

abbrev pub decreases-write_after_identifier : goal.decreases-write_after_identifier
decreases-write_after_identifier l = 4 * (100 - l.depth) + 1

abbrev pub decreases-write_content : goal.decreases-write_content
decreases-write_content l = 4 * (100 - l.depth)

abbrev pub invariant-write_elements-elements : goal.invariant-write_elements-elements
invariant-write_elements-elements l =
    Prints l.initial.out.items l.out.items l.octets l.rest
    × SoFar (λ w after out. ElementsText l.depth w out) l.initial.out.items l.out.items l.octets l.rest

abbrev pub decreases-write_elements-elements : goal.decreases-write_elements-elements
decreases-write_elements-elements l = length l.rest

abbrev pub invariant-write_to_end-elements : goal.invariant-write_to_end-elements
invariant-write_to_end-elements l =
    Prints l.initial.out.items l.out.items l.octets l.rest
    × SoFar (ToEndText l.depth) l.initial.out.items l.out.items l.octets l.rest

abbrev pub decreases-write_to_end-elements : goal.decreases-write_to_end-elements
decreases-write_to_end-elements l = length l.rest
