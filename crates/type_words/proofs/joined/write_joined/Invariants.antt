use Rattle.std.proofs.Common.{List, ℕ}
use Rattle.std.specs.Fmt.{HasWritten, IsPlainFormatter}
use Rattle.der_base.specs.declared.rules.Rules.TheVariants.{Ber}
use Rattle.der_elements.specs.Ends.{octets_ahead}
use Rattle.der_elements.specs.Visits.{Visited}
use Rattle.der_elements.specs.Walked.{HasVisited}
use Rattle.type_words.specs.Counts.{values_kept}
use Rattle.type_words.specs.Joined.{AreTexts}
use Rattle.type_words.proofs.joined.write_joined.Given as goal

-- the texts of the elements so far were written
abbrev pub invariant-elements : goal.invariant-elements
invariant-elements g l = record {
  visited : (vs : List Visited) × HasVisited values_kept Ber l.fn.octets l.walk vs
      × (IsPlainFormatter l.fn.f → (texts : List ℕ) × AreTexts l.fn.octets vs texts × HasWritten g.W.Write.write_str_gives l.fn.f texts l.f);
}

abbrev pub decreases-elements : goal.decreases-elements
decreases-elements g l = octets_ahead l.walk
