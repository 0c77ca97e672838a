use Rattle.std.proofs.Common.{◌≡◌, ◌++◌, ◌∙◌, length, take, drop, sym, subst, rules}
use Rattle.der_parser.specs.Viewing.Vectors.{HasElements}
use Rattle.der_parser.proofs.ViewLaws.VectorLaws.{listed_twice}
use Rattle.der_parser.proofs.view.vectors.read_element.Goals as goal

pub returns-in-Some-list_element : goal.returns-in-Some-list_element
returns-in-Some-list_element c =
    let first = c.in-Some.counted in
    let l = c.in-Some.ensures.listed in
    let second = c.in-Some-list_element.listed in
    let elements = c.in_ok-elements.elements in
    let old = c.deref_mut.result.now in
    let new = c.list_element-2.new.slots in
    let made : elements.len ≡ first.elements = search rules in
    let whole : length old ≡ elements.len = search rules in
    subst (λ k. HasElements c.args.rules c.args.max_depth c.args.input.now second.rest.now (take k (new ++ drop (length new) elements.items))) (sym made)
    (listed_twice c.args.rules c.args.max_depth c.args.input.now first.rest.now second.rest.now first.elements second.elements old new elements.items (l.0, l.1, l.2, l.3.0) c.in-Some-list_element.ensures.listed (whole ∙ made))
