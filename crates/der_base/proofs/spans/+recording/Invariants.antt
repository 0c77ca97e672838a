use Rattle.std.proofs.Common.{◌≡◌, ◌+◌, ◌*◌, ◌-◌, ◌≤◌, ◌++◌, List, ℕ, length}
use Rattle.der_base.specs.declared.spans.Span.{Span}
use Rattle.der_base.specs.Count.{some_more}
use Rattle.der_base.specs.Inner.Spans.{AreSpans, span_octets}
use Rattle.der_base.proofs.spans.+recording.Given as goal

abbrev pub decreases-record_open : goal.decreases-record_open
decreases-record_open l = 2 * l.budget + 1

abbrev pub decreases-record_to_end_marker : goal.decreases-record_to_end_marker
decreases-record_to_end_marker l = 2 * l.budget

-- what was read so far is the elements of the spans; of each of them a header was counted, and each that was counted
-- took two octets at least
abbrev pub invariant-record_to_end_marker-elements : goal.invariant-record_to_end_marker-elements
invariant-record_to_end_marker-elements l = record {
  found : (u : List ℕ) × (ss : List Span) × AreSpans ss u (l.budget - 1)
      × (l.i ≡ u ++ l.rest) × (l.spans.items ≡ l.fn.spans.items ++ ss);
  counted : some_more (length l.spans.items - length l.fn.spans.items) l.fn.count ≤ l.count;
  bounded : 2 * l.count + length l.rest ≤ 2 * l.fn.count + length l.i;
  bounded_ok : 2 * l.count + span_octets l.spans.items + length l.rest
      ≤ 2 * l.fn.count + span_octets l.fn.spans.items + length l.i;
}

abbrev pub decreases-record_to_end_marker-elements : goal.decreases-record_to_end_marker-elements
decreases-record_to_end_marker-elements l = length l.rest
