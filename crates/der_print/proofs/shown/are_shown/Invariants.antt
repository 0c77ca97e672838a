use Rattle.std.proofs.Common.{◌≡◌, take}
use Rattle.std.specs.List.{list_all}
use Rattle.der_print.specs.Shown.{is_shown}
use Rattle.der_print.proofs.shown.are_shown.Given as goal

abbrev pub invariant-loop-octet : goal.invariant-loop-octet
invariant-loop-octet l = l.shown ≡ list_all is_shown (take l.octet-index l.octets)
