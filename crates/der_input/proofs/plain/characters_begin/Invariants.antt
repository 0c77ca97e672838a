use Rattle.std.proofs.Common.{◌≡◌, ◌-◌, ◌≤◌, length, take, drop, unwrap_or}
use Rattle.std.specs.Prelude.{count_by, find}
use Rattle.std.specs.Char.{is_ascii_hexdigit}
use Rattle.std.specs.List.{range_with_len}
use Rattle.der_input.specs.Plain.{begins_characters, without_margin}
use Rattle.der_input.proofs.plain.characters_begin.Given as goal

abbrev pub invariant-octets : goal.invariant-octets
invariant-octets l = record {
  within : l.offset ≤ length l.line;
  digits : l.digits ≡ count_by is_ascii_hexdigit (take l.offset l.line);
  characters : l.characters ≡ length (without_margin (drop l.offset l.line));
  begin : l.begin ≡ unwrap_or (find (begins_characters l.line) (range_with_len l.offset (length l.line - l.offset))) (length l.line);
}

abbrev pub decreases-octets : goal.decreases-octets
decreases-octets l = l.offset
