use Rattle.der_parser.proofs.ViewLaws.DerTrees as trees
use Rattle.der_parser.proofs.view.laws.der_trees_show.Goals as goal

pub returns : goal.returns
returns c = trees.der_trees_show
