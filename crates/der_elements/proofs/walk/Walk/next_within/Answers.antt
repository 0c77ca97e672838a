use Rattle.std.proofs.Common.{◌≡◌, ◌<◌, ◌∙◌, ap, arith, length, rules, sym, subst}
use Rattle.std.proofs.lemmas.List.{nil_from_length}
use Rattle.der_elements.specs.Reading.{Refuses}
use Rattle.der_elements.proofs.Ahead.{passes_some}
use Rattle.der_elements.proofs.FirstFaults.{next_refused}
use Rattle.der_elements.proofs.Refusals.{refuses_end}
use Rattle.der_elements.proofs.Walks.{ended, fits_front, here_within, visited_next}
use Rattle.der_elements.proofs.walk.Walk.next_within.Goals as goal

pub returns-then-is_empty-2-clause-visits : goal.returns-then-is_empty-2-clause-visits
returns-then-is_empty-2-clause-visits c =
    let z : length c.octets_here-here.result.now ≡ 0 = search rules in
    let n : length c.close_ended.new.self.opened.items ≡ 0 = search rules in
    λ x r i vs has. ended x r i vs c.close_ended.new.self (c.close_ended.ensures.keeps x r i vs has) (ap length (sym c.octets_here-here.ensures.here) ∙ z) n

pub read_element-requires-clause-some : goal.read_element-requires-clause-some
read_element-requires-clause-some c =
    let some : 0 < length c.octets_here-here.result.now = search rules in
    λ e. absurd (omega (arith, ap length e, some))

pub pass-requires-clause-begin : goal.pass-requires-clause-begin
pass-requires-clause-begin c =
    let some : 0 < length c.octets_here-here.result.now = search rules in
    here_within c.close_ended.new.self c.octets_here-here.result.now c.in-Ok.element c.octets_here-here.ensures.here c.in-Ok.ensures.read some

pub pass-requires-clause-front : goal.pass-requires-clause-front
pass-requires-clause-front c =
    let some : 0 < length c.octets_here-here.result.now = search rules in
    fits_front c.close_ended.new.self c.octets_here-here.result.now c.in-Ok.element c.octets_here-here.ensures.here c.in-Ok.ensures.read some c.octets_here-here.ensures.fits

pub returns-in-Ok-clause-visits : goal.returns-in-Ok-clause-visits
returns-in-Ok-clause-visits c = λ x r i vs has.
    let next =
    visited_next x r i vs c.close_ended.new.self c.pass.new.self c.octets_here-here.result.now c.in-Ok.element c.octets_here-here.ensures.fits (c.close_ended.ensures.keeps x r i vs has) c.octets_here-here.ensures.here c.in-Ok.ensures.read c.pass.ensures in
    (next.0, next.1, next.2, c.in-Ok.ensures.shallow)

pub returns-in-Err-clause-visits : goal.returns-in-Err-clause-visits
returns-in-Err-clause-visits c =
    let w = c.close_ended.new.self in
    let d = c.args.max_depth in
    let some : 0 < length c.octets_here-here.result.now = search rules in
    let here = c.octets_here-here.ensures.here in
    λ x r i vs has.
    next_refused d x r i vs w c.in-Err.refusal (c.close_ended.ensures.keeps x r i vs has) c.close_ended.ensures.stays (λ o e. absurd (omega (arith, ap length (here ∙ e), some)))
    (subst (λ l. Refuses d w l c.in-Err.refusal) here c.in-Err.ensures.refused)

pub returns-then-is_empty-clause-visits : goal.returns-then-is_empty-clause-visits
returns-then-is_empty-clause-visits c =
    let w = c.close_ended.new.self in
    let d = c.args.max_depth in
    let none : length c.octets_here-here.result.now ≡ 0 = search rules in
    let here = sym c.octets_here-here.ensures.here ∙ nil_from_length c.octets_here-here.result.now none in
    λ x r i vs has.
    next_refused d x r i vs w c.refuse_end.result (c.close_ended.ensures.keeps x r i vs has) c.close_ended.ensures.stays (λ o e. absurd (search rules))
    (refuses_end d w _ c.refuse_end.result here c.refuse_end.ensures.cause c.refuse_end.ensures.place c.refuse_end.ensures.step)

pub returns-in-Ok-clause-shorter : goal.returns-in-Ok-clause-shorter
returns-in-Ok-clause-shorter c =
    let some : 0 < length c.octets_here-here.result.now = search rules in
    let fewer = passes_some c.close_ended.new.self c.pass.new.self c.octets_here-here.result.now c.in-Ok.element c.octets_here-here.ensures.here c.in-Ok.ensures.read some c.pass.ensures in
    λ _. omega (arith, fewer, c.close_ended.ensures.ahead)
