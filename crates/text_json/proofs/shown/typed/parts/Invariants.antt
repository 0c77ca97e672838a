use Rattle.std.proofs.Common.{◌≡◌, List, map}
use Rattle.std.specs.List.{flat_map}
use Rattle.serde_json.specs.View.{view}
use Rattle.der_base.specs.declared.rules.Rules.TheVariants.{Ber}
use Rattle.der_elements.specs.Ends.{octets_ahead}
use Rattle.der_elements.specs.Visits.{Visited}
use Rattle.der_elements.specs.Walked.{HasVisited}
use Rattle.text_json.specs.Shown.Items.{part}
use Rattle.type_words.specs.Counts.{values_kept}
use Rattle.text_json.proofs.shown.typed.parts.Given as goal

-- the texts of the elements so far were found
abbrev pub invariant-elements : goal.invariant-elements
invariant-elements l = record {
  visited : (vs : List Visited) × HasVisited values_kept Ber l.fn.octets l.walk vs
      × (map view l.parts.items ≡ flat_map (part l.fn.octets) vs);
}

abbrev pub decreases-elements : goal.decreases-elements
decreases-elements l = octets_ahead l.walk
