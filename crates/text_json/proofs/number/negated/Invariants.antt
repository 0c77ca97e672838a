use Rattle.std.proofs.Common.{◌≡◌, ◌+◌, ◌*◌, ◌^◌, ◌≤◌, length, reverse}
use Rattle.der_base.specs.Octets.{number}
use Rattle.text_json.proofs.number.negated.Given as goal

-- what is left, less what is borrowed, is in front of the octets so far
abbrev pub invariant-loop-last : goal.invariant-loop-last
invariant-loop-last l = record {
  sum : (number l.rest + l.borrowed) * 256 ^ length l.reversed.items ≡ number l.content + number (reverse l.reversed.items);
  long : length l.rest + length l.reversed.items ≡ length l.content;
  small : l.borrowed ≤ 1;
}

abbrev pub decreases-loop-last : goal.decreases-loop-last
decreases-loop-last l = length l.rest
