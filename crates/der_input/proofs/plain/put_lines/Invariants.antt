use Rattle.std.proofs.Common.{◌≡◌, ◌≤◌, length, take}
use Rattle.std.specs.List.{flat_map}
use Rattle.der_input.specs.Plain.{digits_of_line}
use Rattle.der_input.proofs.plain.put_lines.Given as goal

abbrev pub invariant-lines : goal.invariant-lines
invariant-lines l = record {
  within : l.at ≤ length l.room;
  written : take l.at l.room ≡ flat_map (λ x. digits_of_line x.now) l.yielded;
}
