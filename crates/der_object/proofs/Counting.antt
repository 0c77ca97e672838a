-- How many objects there are in objects that were read.
use Rattle.std.proofs.Common.{◌≡◌, ◌+◌, List, [], ◌∷◌, ◌++◌, ap, ◌∙◌, arith}
use Rattle.std.specs.declared.vec.Vec.{Vec}
use Rattle.std.specs.declared.alloc.Global.{Global}
use Rattle.der_base.specs.Listing.{object_count, content_count, item_count}
use Rattle.der_base.proofs.Spellings.Counted.{sequence_counted, set_counted, items_counted}
use Rattle.der_object.specs.declared.object.BerObject.{BerObject}
use Rattle.der_object.specs.declared.object.BerObjectContent.TheVariants.{Sequence, Set}
use Rattle.der_object.specs.View.{tree, content_tree, trees}
use Rattle.der_object.proofs.Trees.{sequence_tree, set_tree}

pub sequence_content_count : (v : Vec BerObject Global) → content_count (content_tree (Sequence v)) ≡ item_count (trees v.items)
sequence_content_count v = ap content_count (sequence_tree v) ∙ sequence_counted (trees v.items)

pub set_content_count : (v : Vec BerObject Global) → content_count (content_tree (Set v)) ≡ item_count (trees v.items)
set_content_count v = ap content_count (set_tree v) ∙ set_counted (trees v.items)

-- one more object behind others
pub item_count_push : (os : List BerObject) (o : BerObject) → item_count (trees (os ++ o ∷ [])) ≡ item_count (trees os) + object_count (tree o)
item_count_push [] o = omega (arith, items_counted (tree o) (trees []))
item_count_push (x ∷ os) o = omega (arith, items_counted (tree x) (trees os), items_counted (tree x) (trees (os ++ o ∷ [])), item_count_push os o)
