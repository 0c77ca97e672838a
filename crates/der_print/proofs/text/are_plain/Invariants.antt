use Rattle.std.proofs.Common.{◌≡◌, take}
use Rattle.std.specs.List.{list_all}
use Rattle.der_print.specs.Quotes.{is_plain}
use Rattle.der_print.proofs.text.are_plain.Given as goal

abbrev pub invariant-loop-octet : goal.invariant-loop-octet
invariant-loop-octet l = l.plain ≡ list_all is_plain (take l.octet-index l.octets)
