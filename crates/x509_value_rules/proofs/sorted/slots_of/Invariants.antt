use Rattle.x509.specs.Lists.{extensions_left}
use Rattle.x509_value_rules.proofs.SortedLaws.{SortedSoFar}
use Rattle.x509_value_rules.proofs.sorted.slots_of.Given as goal

-- the extensions so far are in their slots
abbrev pub invariant-loop-extension : goal.invariant-loop-extension
invariant-loop-extension l = SortedSoFar l.fn.extensions.octets.now (extensions_left l.extension-iterator) l.slots
