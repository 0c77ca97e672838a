use Rattle.std.proofs.Common.{◌-◌, [], refl, arith}
use Rattle.std.proofs.lemmas.Result.{err_from_is_err_and}
use Rattle.der_base.specs.Inner.Framed.{no_elements}
use Rattle.der_base.specs.Header.{class_of, is_constructed, number_of, length_of}
use Rattle.der_base.proofs.Framing.EndMarkerLoop.{header_answered, no_budget, ends_here, content_answered}
use Rattle.der_base.proofs.Framing.FramingLists.{one_more_element}
use Rattle.der_base.proofs.content.+framing.Goals as goal

pub read_to_end_marker-elements-init : goal.read_to_end_marker-elements-init
read_to_end_marker-elements-init t c = ([], no_elements, refl)

pub read_to_end_marker-returns-in_err-behind : goal.read_to_end_marker-returns-in_err-behind
read_to_end_marker-returns-in_err-behind t c =
    let u = c.elements.invariant in
    let p = err_from_is_err_and c.from_residual.result c.from_residual.ensures.1 in
    rw (p.1, p.2) (header_answered c.elements.rest.now u.1 u.2 _ _ _ c.in_err-behind.field-0.0 (omega arith)
    c.in_err-behind.ensures.found)

pub read_to_end_marker-returns-then-budget-eq1 : goal.read_to_end_marker-returns-then-budget-eq1
read_to_end_marker-returns-then-budget-eq1 t c =
    let u = c.elements.invariant in
    no_budget _ u.1 u.2 c.in_ok-behind.ensures.found.begins (omega arith)

pub read_to_end_marker-returns-then-begins_with_end_marker : goal.read_to_end_marker-returns-then-begins_with_end_marker
read_to_end_marker-returns-then-begins_with_end_marker t c =
    let u = c.elements.invariant in
    let e = ends_here _ u.1 u.2 c.in_ok-behind.ensures.found.begins (omega arith) c.if-begins_with_end_marker.ensures in
    rw e.0 e.1

pub read_to_end_marker-returns-in_err-after : goal.read_to_end_marker-returns-in_err-after
read_to_end_marker-returns-in_err-after t c =
    let u = c.elements.invariant in
    let p = err_from_is_err_and c.from_residual-in_err-after.result c.from_residual-in_err-after.ensures.1 in
    rw (p.1, p.2) (content_answered _ u.1 u.2 c.in_ok-behind.ensures.found.begins _ _ _ _ c.in_err-after.field-0.0
    (omega arith) (λ m. m) (rw c.length.ensures at c.in_err-after.ensures))

pub read_to_end_marker-elements-preserved : goal.read_to_end_marker-elements-preserved
read_to_end_marker-elements-preserved t c =
    let u = c.elements.invariant in
    let h = c.in_ok-behind.header in
    let after = c.in_ok-after in
    one_more_element c.args.i.now c.elements.rest.now c.in_ok-behind.behind.now after.after.now after.field-0-1.now u.0
    (c.args.budget - 1) (class_of h) (is_constructed h) (number_of h) (length_of h) (omega arith) u.1 u.2
    c.in_ok-behind.ensures.found.begins
    (rw c.length.ensures at after.ensures) c.if-begins_with_end_marker.ensures
