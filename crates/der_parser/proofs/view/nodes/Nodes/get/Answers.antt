use Rattle.std.proofs.Common.{◌≡◌, ◌∙◌, ap, drop, slice_get}
use Rattle.std.specs.Option.{option_map}
use Rattle.der_parser.specs.Viewing.Views.{elements_of, input_of, preorder, view}
use Rattle.der_parser.proofs.ViewLaws.Lists.{preorder_drop}
use Rattle.der_parser.proofs.view.nodes.Nodes.get.Goals as goal

pub returns : goal.returns
returns c =
    let s = c.skip.ensures in
    let i = input_of c.args.self.now in
    let first : option_map view c.root.result ≡ slice_get (preorder i (drop c.args.index (elements_of c.args.self.now))) 0 =
    c.root.ensures ∙ ap (λ j. slice_get (preorder j (elements_of c.skip.result)) 0) s.input
    ∙ ap (λ es. slice_get (preorder i es) 0) s.elements in
    first ∙ preorder_drop c.args.index i (elements_of c.args.self.now)
