use Rattle.std.specs.Cmp.{decided, on_equiv}
use Rattle.der_base.specs.TreeEquality.{same_node, same_content}
use Rattle.der_base.proofs.TreeEqualityLaws.{same_node-Decides, same_content-Decides}
use Rattle.der_object.specs.View.{tree, content_tree}
use Rattle.der_object.proofs.laws.equals_have_one_tree.Goals as goal

pub returns-clause-object : goal.returns-clause-object
returns-clause-object c x y = same_node-Decides (tree x) (tree y)

pub returns-clause-content : goal.returns-clause-content
returns-clause-content c x y = same_content-Decides (content_tree x) (content_tree y)

pub returns-clause-objects : goal.returns-clause-objects
returns-clause-objects c = on_equiv tree (decided same_node same_node-Decides)

pub returns-clause-contents : goal.returns-clause-contents
returns-clause-contents c = on_equiv content_tree (decided same_content same_content-Decides)
