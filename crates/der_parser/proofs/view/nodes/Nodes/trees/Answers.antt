use Rattle.std.proofs.Common.{◌<◌, ◌^◌, arith, rules}
use Rattle.der_parser.specs.Viewing.Views.{elements_of, input_of}
use Rattle.der_parser.proofs.ViewLaws.Lists.{trees_few}
use Rattle.der_parser.proofs.view.nodes.Nodes.trees.Goals as goal

pub returns-clause-few : goal.returns-clause-few
returns-clause-few c =
    let few = trees_few 0 (input_of c.args.self.now) (elements_of c.args.self.now) in
    let fits : c.len-count.result < 2 ^ 64 = search rules in
    omega (arith, few, fits, c.len-count.ensures)
