use Rattle.std.proofs.Common.{◌≡◌, ◌≤◌, ◌++◌, length, take, filter, not}
use Rattle.der_input.specs.Marks.{is_separator}
use Rattle.der_input.proofs.plain.put_digits_among.Given as goal

abbrev pub invariant-octets : goal.invariant-octets
invariant-octets l = record {
  within : l.end ≤ length l.room;
  written : take l.end l.room ≡ take l.fn.at l.fn.room ++ filter (λ c. not (is_separator c)) (take l.octet-index l.octets);
}
