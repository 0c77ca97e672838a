use Rattle.std.proofs.Common.{List}
use Rattle.der_elements.specs.Ends.{octets_ahead}
use Rattle.der_elements.specs.Visits.{Visited}
use Rattle.der_elements.specs.Walked.{HasVisited}
use Rattle.dumarewhi_page.specs.Content.Listed.{all_extras}
use Rattle.dumarewhi_page.specs.Content.Rows.{AreRows}
use Rattle.dumarewhi_page.proofs.ContentLaws.Listing.{AreLast}
use Rattle.dumarewhi_page.proofs.content.lists.list.Given as goal

-- the elements so far were visited and listed
abbrev pub invariant-elements : goal.invariant-elements
invariant-elements l = (vs : List Visited) × HasVisited all_extras l.fn.rules l.fn.input l.walk vs × AreRows vs l.rows l.count × AreLast l.last.rows vs

abbrev pub decreases-elements : goal.decreases-elements
decreases-elements l = octets_ahead l.walk
