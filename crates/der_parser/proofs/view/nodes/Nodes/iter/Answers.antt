use Rattle.std.proofs.Common.{◌<◌, ◌^◌, arith, rules}
use Rattle.der_parser.specs.Viewing.Views.{elements_of, input_of}
use Rattle.der_parser.proofs.ViewLaws.Lists.{preorder_few}
use Rattle.der_parser.proofs.view.nodes.Nodes.iter.Goals as goal

pub returns-clause-few : goal.returns-clause-few
returns-clause-few c =
    let same = preorder_few (input_of c.args.self.now) (elements_of c.args.self.now) in
    let fits : c.len-count.result < 2 ^ 64 = search rules in
    omega (arith, same, fits, c.len-count.ensures)
