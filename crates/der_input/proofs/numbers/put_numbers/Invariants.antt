use Rattle.std.proofs.Common.{◌≡◌, ◌≤◌, length, take}
use Rattle.std.specs.List.{flat_map}
use Rattle.der_input.specs.Numbers.{digits_of_number}
use Rattle.der_input.proofs.numbers.put_numbers.Given as goal

abbrev pub invariant-words : goal.invariant-words
invariant-words l = record {
  within : l.at ≤ length l.room;
  written : take l.at l.room ≡ flat_map (λ x. digits_of_number x.now) l.yielded;
}
