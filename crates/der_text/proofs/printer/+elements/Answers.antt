use Rattle.std.proofs.Common.{◌≡◌, ◌<◌, ◌++◌, [], ap, length, refl, rules}
use Rattle.der_text.specs.Looks.{BeginsWithEnd, HasElements, HasFirst, IsToEnd}
use Rattle.der_text.proofs.Looks.{at_end, braces_to_end, braces_whole, content_elements, content_value, deep_elements, deep_to_end, element_by_name, last_element, next_before, next_element, no_element, no_name, without_end}
use Rattle.der_text.proofs.Printed.{definite, fewer_after, identified, if_false, if_true, indefinite, nothing, prints_all, prints_both, prints_part, puts_after, puts_both, puts_then_none}
use Rattle.der_text.proofs.printer.+elements.Goals as goal

pub write_after_identifier-returns-then-is_to_end-clause-prints : goal.write_after_identifier-returns-then-is_to_end-clause-prints
write_after_identifier-returns-then-is_to_end-clause-prints t c =
    let x = c.args.element.now in
    let is : IsToEnd x = c.is_to_end.ensures.0 (search rules) in
    indefinite x.length.now x.content.now x.rest.now is.0 c.requires.form (ap length is.1)
    c.in_ok-write_open.ensures.puts c.in_ok-write_line_end.ensures.puts c.in_ok-rest.ensures.prints c.in_ok-write_spaces.ensures.puts
    c.in_ok-write_close.ensures

pub write_after_identifier-returns-then-is_to_end-clause-text : goal.write_after_identifier-returns-then-is_to_end-clause-text
write_after_identifier-returns-then-is_to_end-clause-text t c =
    let x = c.args.element.now in
    braces_to_end c.args.depth x (c.is_to_end.ensures.0 (search rules)) c.in_ok-write_open.ensures.text
    c.in_ok-write_line_end.ensures.text c.in_ok-rest.ensures.text c.in_ok-write_spaces.ensures.text c.in_ok-write_close.ensures

pub write_after_identifier-returns-clause-prints : goal.write_after_identifier-returns-clause-prints
write_after_identifier-returns-clause-prints t c =
    let x = c.args.element.now in
    definite x.length.now x.content.now x.rest.now c.in_ok-write_open.ensures.puts c.in_ok-write_content.ensures.puts c.requires.form
    c.in_ok-write_close-2.ensures

pub write_after_identifier-returns-clause-text : goal.write_after_identifier-returns-clause-text
write_after_identifier-returns-clause-text t c =
    let x = c.args.element.now in
    let none : ¬ IsToEnd x = search rules in
    braces_whole c.args.depth x none c.in_ok-write_open.ensures.text c.in_ok-write_content.ensures.text c.in_ok-write_close-2.ensures

pub write_content-returns-then-has_elements-clause-puts : goal.write_content-returns-then-has_elements-clause-puts
write_content-returns-then-has_elements-clause-puts t c =
    puts_then_none (puts_both c.in_ok-write_line_end.ensures.puts c.in_ok-write_elements.ensures.puts) c.in_ok-write_spaces.ensures.puts

pub write_content-returns-then-has_elements-clause-text : goal.write_content-returns-then-has_elements-clause-text
write_content-returns-then-has_elements-clause-text t c =
    content_elements c.args.depth c.args.element.now (c.has_elements.ensures.0 (search rules)) c.in_ok-write_line_end.ensures.text
    c.in_ok-write_elements.ensures.text c.in_ok-write_spaces.ensures.text

pub write_content-returns-clause-puts : goal.write_content-returns-clause-puts
write_content-returns-clause-puts t c = puts_both c.in_ok-write_spaces-2.ensures.puts c.in_ok-write_value.ensures.puts

pub write_content-returns-clause-text : goal.write_content-returns-clause-text
write_content-returns-clause-text t c =
    let none : ¬ HasElements c.args.element.now = search rules in
    content_value c.args.depth c.args.element.now none c.in_ok-write_spaces-2.ensures.text c.indent_of.ensures
    c.in_ok-write_value.ensures.text

pub write_element-returns-in_default-clause-prints : goal.write_element-returns-in_default-clause-prints
write_element-returns-in_default-clause-prints t c =
    prints_all c.args.octets.now [] refl (puts_both c.in_ok-write_spaces.ensures.puts c.in_ok-write_line.ensures.puts)

pub write_element-returns-in_default-clause-text : goal.write_element-returns-in_default-clause-text
write_element-returns-in_default-clause-text t c =
    let none : ¬ HasFirst c.args.octets.now = search rules in
    no_element c.args.depth c.requires.some none c.in_ok-write_spaces.ensures.text c.indent_of.ensures c.in_ok-write_line.ensures.text

pub write_element-returns-then-not-branch-clause-prints : goal.write_element-returns-then-not-branch-clause-prints
write_element-returns-then-not-branch-clause-prints t c =
    prints_all c.args.octets.now [] refl
    (puts_after c.in_ok-write_spaces.ensures.puts
    (if_false _ c.in_ok-write_identifier.field-0 (search rules) c.in_ok-write_identifier.ensures.puts)
    c.in_ok-write_line-2.ensures.puts)

pub write_element-returns-then-not-branch-clause-text : goal.write_element-returns-then-not-branch-clause-text
write_element-returns-then-not-branch-clause-text t c =
    no_name c.args.depth c.in-Some.element (c.in-Some.ensures.first) c.in_ok-write_spaces.ensures.text
    (if_false _ c.in_ok-write_identifier.field-0 (search rules) c.in_ok-write_identifier.ensures.text) c.indent_of-then-not-branch.ensures
    c.in_ok-write_line-2.ensures.text

pub write_element-returns-clause-prints : goal.write_element-returns-clause-prints
write_element-returns-clause-prints t c =
    let x = c.in-Some.element in
    identified c.args.octets.now x.identifier.now (x.length.now ++ (x.content.now ++ x.rest.now)) c.in-Some.ensures.first.parts.whole
    c.in_ok-write_spaces.ensures.puts
    (if_true _ c.in_ok-write_identifier.field-0 (search rules) c.in_ok-write_identifier.ensures.puts) c.in_ok-rest.ensures.prints

pub write_element-returns-clause-fewer : goal.write_element-returns-clause-fewer
write_element-returns-clause-fewer t c =
    let x = c.in-Some.element in
    fewer_after c.args.octets.now x.identifier.now (x.length.now ++ (x.content.now ++ x.rest.now)) c.in_ok-rest.rest.now
    c.in-Some.ensures.first.parts.whole c.in-Some.ensures.first.parts.some c.in_ok-rest.ensures.prints

pub write_element-returns-clause-text : goal.write_element-returns-clause-text
write_element-returns-clause-text t c =
    element_by_name c.args.depth c.in-Some.element c.in-Some.ensures.first c.in_ok-write_spaces.ensures.text
    (if_true _ c.in_ok-write_identifier.field-0 (search rules) c.in_ok-write_identifier.ensures.text) c.in_ok-rest.ensures.text

pub write_elements-returns-then-depth-eq-LIMIT-clause-text : goal.write_elements-returns-then-depth-eq-LIMIT-clause-text
write_elements-returns-then-depth-eq-LIMIT-clause-text t c =
    let e : c.args.depth ≡ 100 = search rules in deep_elements c.args.depth e c.indent_of.ensures c.in_ok-write_octets.ensures.text

pub write_elements-elements-preserved : goal.write_elements-elements-preserved
write_elements-elements-preserved t c =
    let small : c.args.depth < 100 = search rules in (
      prints_both c.elements.invariant.0 c.in_ok-rest.ensures.prints,
      next_element c.args.depth small c.elements.invariant.1 c.in_ok-rest.ensures.text,
    )

pub write_elements-returns-clause-text : goal.write_elements-returns-clause-text
write_elements-returns-clause-text t c =
    let small : c.args.depth < 100 = search rules in
    let none : length c.elements.rest.now ≡ 0 = search rules in
    last_element c.args.depth small (nothing c.elements.rest.now none) c.elements.invariant.1

pub write_to_end-returns-in-Some-clause-prints : goal.write_to_end-returns-in-Some-clause-prints
write_to_end-returns-in-Some-clause-prints t c =
    prints_both c.elements.invariant.0
    (prints_part c.elements.rest.now c.in-Some.after.now c.in-Some.ensures c.in_ok-write_end.ensures.puts)

pub write_to_end-returns-in-Some-clause-text : goal.write_to_end-returns-in-Some-clause-text
write_to_end-returns-in-Some-clause-text t c =
    at_end c.args.depth c.in-Some.after.now c.in-Some.ensures c.elements.invariant.1 c.in_ok-write_end.ensures.text

pub write_to_end-returns-then-depth-eq-LIMIT-clause-prints : goal.write_to_end-returns-then-depth-eq-LIMIT-clause-prints
write_to_end-returns-then-depth-eq-LIMIT-clause-prints t c =
    prints_both c.elements.invariant.0 (prints_all c.elements.rest.now [] refl c.in_ok-write_octets.ensures.puts)

pub write_to_end-returns-then-depth-eq-LIMIT-clause-text : goal.write_to_end-returns-then-depth-eq-LIMIT-clause-text
write_to_end-returns-then-depth-eq-LIMIT-clause-text t c =
    let e : c.args.depth ≡ 100 = search rules in
    let some : 0 < length c.elements.rest.now = search rules in
    let none : ¬ BeginsWithEnd c.elements.rest.now = search rules in
    deep_to_end c.args.depth e c.indent_of.ensures some none c.elements.invariant.1 c.in_ok-write_octets.ensures.text

pub write_to_end-elements-preserved : goal.write_to_end-elements-preserved
write_to_end-elements-preserved t c =
    let small : c.args.depth < 100 = search rules in
    let none : ¬ BeginsWithEnd c.elements.rest.now = search rules in (
      prints_both c.elements.invariant.0 c.in_ok-rest.ensures.prints,
      next_before c.args.depth small none c.elements.invariant.1 c.in_ok-rest.ensures.text,
    )

pub write_to_end-returns-clause-text : goal.write_to_end-returns-clause-text
write_to_end-returns-clause-text t c =
    let none : length c.elements.rest.now ≡ 0 = search rules in
    without_end c.args.depth (nothing c.elements.rest.now none) c.elements.invariant.1
