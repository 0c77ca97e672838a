use Rattle.std.proofs.Common.{List}
use Rattle.der_base.specs.declared.rules.Rules.{Rules}
use Rattle.der_elements.specs.Ends.{octets_ahead}
use Rattle.der_elements.specs.Visits.{Visited}
use Rattle.der_elements.specs.Walked.{HasVisited}
use Rattle.dumarewhi_page.specs.Content.Listed.{all_extras}
use Rattle.dumarewhi_page.proofs.content.fields.write_fields.Given as goal

-- the elements so far were visited
abbrev pub invariant-elements : goal.invariant-elements
invariant-elements g l = (vs : List Visited) × HasVisited all_extras Rules.Ber l.fn.input l.walk vs

abbrev pub decreases-elements : goal.decreases-elements
decreases-elements g l = octets_ahead l.walk
