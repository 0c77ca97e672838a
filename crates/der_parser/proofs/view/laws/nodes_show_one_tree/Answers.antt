use Rattle.der_parser.proofs.ViewLaws.OneTrees.{one_tree}
use Rattle.der_parser.proofs.ViewLaws.SameContents.{one_tree_of_contents}
use Rattle.der_parser.proofs.view.laws.nodes_show_one_tree.Goals as goal

pub returns-clause-tree : goal.returns-clause-tree
returns-clause-tree c = one_tree

pub returns-clause-of_contents : goal.returns-clause-of_contents
returns-clause-of_contents c = one_tree_of_contents
