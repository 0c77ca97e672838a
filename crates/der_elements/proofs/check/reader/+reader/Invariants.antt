use Rattle.std.specs.Prelude.{◌≡◌, ℕ, ◌+◌, ◌*◌, ◌≤◌, List, length, not, eqb, IsTrue}
use Rattle.der_elements.specs.Check.Elements.{AreElements}
use Rattle.der_elements.specs.Check.Readers.{BeginsWithOpenContent}
use Rattle.der_elements.proofs.CheckLaws.TapeLaws.{ListsBefore, ListsBeforeMarker}
use Rattle.der_elements.proofs.check.reader.+reader.Given as goal

abbrev pub decreases-read_content : goal.decreases-read_content
decreases-read_content g l = 5 * l.max_depth

abbrev pub decreases-read_any : goal.decreases-read_any
decreases-read_any g l = 5 * l.max_depth + 1

abbrev pub decreases-read_element : goal.decreases-read_element
decreases-read_element g l = 5 * l.max_depth + 2

abbrev pub decreases-read_elements : goal.decreases-read_elements
decreases-read_elements g l = 5 * l.max_depth + 3

abbrev pub decreases-read_open_content : goal.decreases-read_open_content
decreases-read_open_content g l = 5 * l.max_depth + 3

abbrev pub decreases-read_constructed_content : goal.decreases-read_constructed_content
decreases-read_constructed_content g l = 5 * l.max_depth + 4

-- the octets are elements iff what is left of them is
abbrev pub invariant-read_elements-loop-rest : goal.invariant-read_elements-loop-rest
invariant-read_elements-loop-rest g l = record {
  left : AreElements l.rules l.max_depth l.octets → AreElements l.rules l.max_depth l.rest;
  before : AreElements l.rules l.max_depth l.rest → AreElements l.rules l.max_depth l.octets;
  listed : IsTrue (not (eqb g.row.LISTS 0)) → ListsBefore l.rules g.N.Slot.slot l.max_depth l.octets l.end l.fn.tape l.rest l.tape;
  counted : l.fn.tape.count ≤ l.tape.count;
  within : l.tape.count + length l.rest ≤ l.fn.tape.count + length l.octets;
  same : l.tape.slots.ghost_name ≡ l.fn.tape.slots.ghost_name;
}

abbrev pub decreases-read_elements-loop-rest : goal.decreases-read_elements-loop-rest
decreases-read_elements-loop-rest g l = length l.rest

-- the same of elements before an end marker
abbrev pub invariant-read_open_content-loop-after : goal.invariant-read_open_content-loop-after
invariant-read_open_content-loop-after g l = record {
  left : (r : List ℕ) → BeginsWithOpenContent l.rules l.max_depth l.i r → BeginsWithOpenContent l.rules l.max_depth l.rest r;
  before : (r : List ℕ) → BeginsWithOpenContent l.rules l.max_depth l.rest r → BeginsWithOpenContent l.rules l.max_depth l.i r;
  listed : IsTrue (not (eqb g.row.LISTS 0)) → ListsBeforeMarker l.rules g.N.Slot.slot l.max_depth l.i l.end l.fn.tape l.rest l.tape;
  shorter : length l.rest ≤ length l.i;
  counted : l.fn.tape.count ≤ l.tape.count;
  within : l.tape.count + length l.rest ≤ l.fn.tape.count + length l.i;
  same : l.tape.slots.ghost_name ≡ l.fn.tape.slots.ghost_name;
}

abbrev pub decreases-read_open_content-loop-after : goal.decreases-read_open_content-loop-after
decreases-read_open_content-loop-after g l = length l.rest
