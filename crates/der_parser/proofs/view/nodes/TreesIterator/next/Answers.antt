use Rattle.std.proofs.Common.{◌≡◌, ◌<◌, ◌∷◌, arith, drop, length, ap, sym, ◌∙◌}
use Rattle.std.specs.Option.{option_map}
use Rattle.der_parser.specs.Viewing.Views.{elements_of, input_of, trees, trees_left, view}
use Rattle.der_parser.proofs.ViewLaws.Lists.{no_first, first_tree}
use Rattle.der_parser.proofs.view.nodes.TreesIterator.next.Goals as goal

pub returns-in_default-clause-steps : goal.returns-in_default-clause-steps
returns-in_default-clause-steps c =
    let i = input_of c.args.self.now.left in
    let e = no_first i (elements_of c.args.self.now.left) (ap (option_map view) (sym c.in_default.is) ∙ c.root.ensures) in
    (ap (trees i) e, ap (trees i) e)

pub returns-clause-steps : goal.returns-clause-steps
returns-clause-steps c =
    let i = input_of c.args.self.now.left in
    let es = elements_of c.args.self.now.left in
    let v = view c.in-Some.node in
    let first = first_tree i es v (ap (option_map view) (sym c.in-Some.is) ∙ c.root.ensures) in
    let a = c.skip.ensures in
    let b = c.skip-self.ensures in
    let n = c.element.result.inside in
    let rest : trees (input_of c.skip-self.result) (elements_of c.skip-self.result) ≡ trees i (drop n (drop 1 es)) =
    ap (λ j. trees j (elements_of c.skip-self.result)) (b.input ∙ a.input)
    ∙ ap (trees i) (b.elements ∙ ap (drop n) a.elements) in
    first ∙ ap (λ r. v ∷ r) (ap (λ e. trees i (drop e.inside (drop 1 es))) (sym c.element.ensures) ∙ sym rest)

pub returns-clause-goes : goal.returns-clause-goes
returns-clause-goes c =
    let shorter : length (trees_left (record { left = c.skip-self.result })) < length (trees_left c.args.self.now) =
    omega (arith, ap length (returns-clause-steps c)) in
    record { on = λ h. (tt, tt, shorter); keeps = tt; rests = λ h. tt }
