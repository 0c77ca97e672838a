use Rattle.std.proofs.Common.{◌++◌, ◌∙◌, ap, append_assoc, arith, length, rules, sym, take, ◌<◌}
use Rattle.std.proofs.lemmas.List.{length-drop}
use Rattle.der_input.specs.Escapes.{digits_from, part_digits}
use Rattle.der_input.proofs.Parts.{digits_last, digits_more, part_within}
use Rattle.der_input.proofs.Rooms.{not_all}
use Rattle.der_input.proofs.escapes.put_string.Goals as goal

pub returns-then-size-rest : goal.returns-then-size-rest
returns-then-size-rest c =
    let w = c.parts.rest.now in
    let some : 0 < length w = search rules in
    let before = take c.parts.end c.parts.room in (
      c.in_ok-end.ensures.0,
      c.in_ok-end.ensures.1
          ∙ ap (λ t. before ++ t) (sym (digits_last c.args.quote c.part_size-size.result w some c.part_size-size.ensures.size c.if-size-rest.true))
          ∙ sym c.parts.invariant.written,
    )

pub parts-preserved : goal.parts-preserved
parts-preserved c =
    let w = c.parts.rest.now in
    let quote = c.args.quote in
    let some : 0 < length w = search rules in
    let before = take c.parts.end c.parts.room in
    let others = digits_from quote 0 c.behind-others.result.now in
    record {
      within = c.in_ok-end.ensures.0;
      written = c.parts.invariant.written
          ∙ ap (λ t. before ++ t) (digits_more quote c.part_size-size.result w some c.part_size-size.ensures.size c.part_size-size.ensures.some c.if-size-rest.false)
          ∙ ap (λ v. before ++ (part_digits quote w ++ digits_from quote 0 v)) (sym c.behind-others.ensures)
          ∙ sym (append_assoc before (part_digits quote w) others)
          ∙ ap (λ t. t ++ others) (sym c.in_ok-end.ensures.1);
    }

pub parts-smaller : goal.parts-smaller
parts-smaller c =
    omega (arith, ap length c.behind-others.ensures, length-drop c.part_size-size.result c.parts.rest.now, c.part_size-size.ensures.some, c.if-size-rest.false)

pub returns-in_err-end : goal.returns-in_err-end
returns-in_err-end c =
    let w = c.parts.rest.now in
    let some : 0 < length w = search rules in
    rw c.from_residual.ensures (omega (arith, not_all c.parts.room (digits_from c.args.quote 0 w) _ c.parts.end _ c.parts.invariant.within c.parts.invariant.written (part_within c.args.quote w some) c.in_err-end.ensures))
