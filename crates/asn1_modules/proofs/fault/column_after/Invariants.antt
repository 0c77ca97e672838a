use Rattle.std.proofs.Common.{◌≡◌, ◌+◌, length}
use Rattle.std.specs.Prelude.{◌==◌, not}
use Rattle.std.specs.List.{suffix_len}
use Rattle.asn1_modules.proofs.fault.column_after.Given as goal

abbrev pub invariant-loop-last : goal.invariant-loop-last
invariant-loop-last l = record {
  column : l.column + suffix_len (λ c. not (c == 10)) l.rest ≡ 1 + suffix_len (λ c. not (c == 10)) l.text;
  few : l.column + length l.rest ≡ 1 + length l.text;
}

abbrev pub decreases-loop-last : goal.decreases-loop-last
decreases-loop-last l = length l.rest
