use Rattle.std.proofs.Common.{◌+◌, ◌*◌, ◌-◌, ◌≤◌, List, ℕ, length, drop}
use Rattle.der_base.specs.Count.{some_more}
use Rattle.der_base.specs.Inner.Spans.{AreSpans, span_octets}
use Rattle.der_base.specs.Listing.{item_count}
use Rattle.der_base.specs.Spelling.{framing_budget}
use Rattle.der_object.specs.View.{trees}
use Rattle.der_readers.proofs.BerLaws.Items.{Read}
use Rattle.der_readers.proofs.ber.reader.+reader.Given as goal

abbrev pub decreases-read_element : goal.decreases-read_element
decreases-read_element l = 5 * l.max_depth + 3

abbrev pub decreases-read_behind : goal.decreases-read_behind
decreases-read_behind l = 5 * l.max_depth + 2

abbrev pub decreases-read_object : goal.decreases-read_object
decreases-read_object l = 5 * l.max_depth + 1

abbrev pub decreases-read_list : goal.decreases-read_list
decreases-read_list l = 5 * l.max_depth + 5

abbrev pub decreases-read_items : goal.decreases-read_items
decreases-read_items l = 5 * l.max_depth + 4

abbrev pub decreases-read_spans : goal.decreases-read_spans
decreases-read_spans l = 5 * l.max_depth + 4

-- each object that was read was counted, and each header that was counted took two octets at least
abbrev pub invariant-read_items-loop-rest : goal.invariant-read_items-loop-rest
invariant-read_items-loop-rest l = Read l.content l.rest l.items.items l.max_depth
    × (some_more (item_count (trees l.items.items)) l.fn.count ≤ l.count)
    × (2 * l.count + length l.rest ≤ 2 * l.fn.count + length l.content)

abbrev pub decreases-read_items-loop-rest : goal.decreases-read_items-loop-rest
decreases-read_items-loop-rest l = length l.rest

-- whatever octets the spans are of, the items in front of those that are left were read; what no span is of in them was
-- counted
abbrev pub invariant-read_spans-loop-at : goal.invariant-read_spans-loop-at
invariant-read_spans-loop-at l =
    ((w : List ℕ) → AreSpans l.spans w framing_budget
    → (rest : List ℕ) × Read w rest l.items.items l.max_depth × AreSpans (drop l.at l.spans) rest framing_budget)
    × (l.at ≤ length l.spans)
    × (some_more (item_count (trees l.items.items) - l.at) l.fn.count ≤ l.count)
    × (2 * l.count + span_octets (drop l.at l.spans) ≤ 2 * l.fn.count + span_octets l.spans)

abbrev pub decreases-read_spans-loop-at : goal.decreases-read_spans-loop-at
decreases-read_spans-loop-at l = length l.spans - l.at
