use Rattle.std.proofs.Common.{◌≡◌, ◌+◌, ◌≤◌}
use Rattle.std.proofs.Math.ListN.{drop}
use Rattle.std.specs.Fmt.{char_count}
use Rattle.der_print.proofs.cut.characters.Given as goal

abbrev pub invariant-loop-octet : goal.invariant-loop-octet
invariant-loop-octet l = (l.number ≤ l.octet-index) × (l.number + char_count (drop l.octet-index l.text) ≡ char_count l.text)
