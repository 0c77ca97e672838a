use Rattle.std.proofs.Common.{ap, sym, ◌∙◌}
use Rattle.std.specs.Option.{option_map}
use Rattle.der_parser.specs.Viewing.Views.{elements_of, input_of, preorder, view}
use Rattle.der_parser.proofs.ViewLaws.Lists.{no_first}
use Rattle.der_parser.proofs.view.nodes.PreorderIterator.next.Goals as goal

pub returns-in_default-clause-steps : goal.returns-in_default-clause-steps
returns-in_default-clause-steps c =
    let i = input_of c.args.self.now.left in
    let e = no_first i (elements_of c.args.self.now.left) (ap (option_map view) (sym c.in_default.is) ∙ c.root.ensures) in
    (ap (preorder i) e, ap (preorder i) e)
