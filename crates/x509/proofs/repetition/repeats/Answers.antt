use Rattle.std.proofs.Common.{◌<◌, ◌∙◌, Bor, List, ℕ, length, length-set, map, take, refl, subst, sym, arith}
use Rattle.std.proofs.lemmas.List.{length-map, length-take-le, take_more_set}
use Rattle.x509.specs.Rules.{AreIdentifiers}
use Rattle.x509.proofs.RepetitionLaws.{one_more, passed_over, start, told_all, too_many}
use Rattle.x509.proofs.repetition.repeats.Goals as goal
use Rattle.x509.proofs.repetition.repeats.Goals.{in-Some-first_element+else-count-slots, in_default-first_element}

abbrev text : Bor (List ℕ) → List ℕ
text t = t.now

pub loop-item-init : goal.loop-item-init
loop-item-init c = (omega arith, refl, start)

pub returns-then-count-slots : goal.returns-then-count-slots
returns-then-count-slots c =
    let l = c.loop-item in
    too_many text (take l.count l.slots) c.in-Some.item.content.now c.in-Some.item.rest.now l.invariant.2 c.in-Some.ensures.0.0
    c.in-Some-first_element.identifier.content c.in-Some-first_element.identifier.rest.now c.in-Some-first_element.ensures.0.0
    (length-take-le l.count l.slots l.invariant.0 ∙ c.if-count-slots.true ∙ l.invariant.1)

pub loop-item-preserved : goal.loop-item-preserved
loop-item-preserved c =
    let l = c.loop-item in
    elim c.match-first_element-2.branch [
      | in-Some-first_element+else-count-slots w ↦
          let b = w.in-Some-first_element.identifier.content in
          let fits : l.count < length l.slots = omega (arith, l.invariant.0, w.if-count-slots.false) in
          let more = one_more text (take l.count l.slots) c.in-Some.item.content.now c.in-Some.item.rest.now l.invariant.2 c.in-Some.ensures.0.0 b w.in-Some-first_element.identifier.rest.now w.in-Some-first_element.ensures.0.0 in
          rw (w.slots-is, w.count-is) (
            omega (arith, fits, length-set {A = Bor (List ℕ)}),
            omega (arith, l.invariant.1, length-set {A = Bor (List ℕ)}),
            subst (λ z. AreIdentifiers c.args.items.now (map text z) c.in-Some.item.rest.now) (sym (take_more_set l.slots l.count b fits)) more,
          )
      | in_default-first_element w ↦ rw (w.slots-is, w.count-is) (l.invariant.0, l.invariant.1, passed_over text (take l.count l.slots) c.in-Some.item.content.now c.in-Some.item.rest.now l.invariant.2 c.in-Some.ensures.0.0 w.in_default-first_element.ensures)
    ]

pub returns : goal.returns
returns c =
    let l = c.loop-item in
    let few = length-map (take l.count l.slots) text ∙ length-take-le l.count l.slots l.invariant.0 in
    told_all l.invariant.2 c.in_default.ensures (omega (arith, few, l.invariant.0, l.invariant.1)) c.has_twice.ensures
