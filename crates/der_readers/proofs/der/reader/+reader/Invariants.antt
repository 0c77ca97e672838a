use Rattle.std.proofs.Common.{◌≡◌, ◌+◌, ◌*◌, length}
use Rattle.der_base.specs.Count.{some_more}
use Rattle.der_base.specs.Listing.{item_count}
use Rattle.der_object.specs.View.{trees}
use Rattle.der_readers.proofs.DerLaws.Items.{Read}
use Rattle.der_readers.proofs.der.reader.+reader.Given as goal

abbrev pub decreases-read_element : goal.decreases-read_element
decreases-read_element l = 3 * l.max_depth + 2

abbrev pub decreases-read_object : goal.decreases-read_object
decreases-read_object l = 3 * l.max_depth + 1

abbrev pub decreases-read_items : goal.decreases-read_items
decreases-read_items l = 3 * l.max_depth + 3

abbrev pub invariant-read_items-loop-rest : goal.invariant-read_items-loop-rest
invariant-read_items-loop-rest l = Read l.content l.rest l.items.items l.max_depth × (l.count ≡ some_more (item_count (trees l.items.items)) l.fn.count)

abbrev pub decreases-read_items-loop-rest : goal.decreases-read_items-loop-rest
decreases-read_items-loop-rest l = length l.rest
