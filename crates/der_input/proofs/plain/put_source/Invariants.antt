use Rattle.std.proofs.Common.{◌≡◌, ◌≤◌, length, take}
use Rattle.std.specs.List.{flat_map}
use Rattle.der_input.specs.Plain.{digits_of_source}
use Rattle.der_input.proofs.plain.put_source.Given as goal

abbrev pub invariant-words : goal.invariant-words
invariant-words l = record {
  within : l.at ≤ length l.room;
  written : take l.at l.room ≡ flat_map (λ x. digits_of_source x.now) l.yielded;
}
