use Rattle.std.proofs.Common.{◌≡◌, ◌++◌}
use Rattle.der_elements.specs.Walked.{visited_of}
use Rattle.der_print.specs.Cuts.{cut}
use Rattle.der_print.specs.Lines.{bold, dim, field_text, front_text, left_of_margin, limit_of, margin_text, plain, type_part}
use Rattle.der_print.specs.Texts.{octets_in}
use Rattle.der_print.proofs.FrontLaws.{as_one, part_behind}
use Rattle.der_print.proofs.PartLaws.{ok_then}
use Rattle.der_print.proofs.front.put_front.Goals as goal

pub returns : goal.returns
returns c =
    let v = visited_of c.args.element.now in
    let w = octets_in c.args.line.now in
    let colours = c.args.colours in
    let field = c.args.field.now in
    let limit = c.args.left.now in
    let margin = c.in_ok-put_margin.ensures in
    let named = part_behind _ _ _ _ _ margin.left c.in_ok-put_field.ensures in
    let typed = rw (c.name.ensures.class, c.name.ensures.number) at (part_behind _ _ _ _ _ named.1 c.in_ok-put_type.ensures) in
    let before = octets_in c.put_type.new.line in
    let all = octets_in c.put_letters-4.new.line in
    let left = c.put_type.new.left in
    ok_then c.put_letters-4.result (λ _. all ≡ before ++ plain colours)
    (λ _. (all ≡ w ++ front_text colours limit field v) × (left ≡ limit_of limit field v))
    (λ _ ends. (
      rw (
        ends,
        typed.0,
        c.in_ok-put_letters-3.ensures,
        named.0,
        c.in_ok-put_letters-2.ensures,
        margin.octets,
        c.in_ok-put_letters.ensures,
      )
          (as_one w (dim colours) (cut limit (margin_text limit v)) (plain colours) (cut (left_of_margin limit v) (field_text field)) (bold colours)
          (type_part limit field v) (plain colours)),
      typed.1,
    )) c.put_letters-4.ensures
