use Rattle.std.proofs.Common.{◌≡◌, ◌≤◌, ◌+◌, [], ◌∷◌, true, length, drop, get_or, Some, sym, ap, ◌∙◌, arith}
use Rattle.std.proofs.lemmas.Bool.{false≢true}
use Rattle.std.proofs.lemmas.Bool.Decides.{nat_tests}
use Rattle.std.proofs.lemmas.List.{drop_all}
use Rattle.der_base.specs.Arcs.{arcs}
use Rattle.der_base.proofs.Oids.Arcs.{octet_at}
use Rattle.der_values.proofs.Subidentifiers.{same_front, front_is, none_in_front, no_arcs, none_of_length}
use Rattle.der_values.proofs.oid.have_further_arcs.Goals as goal

pub loop-arc-init : goal.loop-arc-init
loop-arc-init c = ((λ e. e), (λ e. e))

pub returns-in_default : goal.returns-in_default
returns-in_default c =
    let ws = c.args.wanted.now in
    let i = c.loop-arc.arc-index in
    let at = octet_at ws i (omega arith) in (
      (λ t. absurd (false≢true t)),
      (λ e. absurd (none_in_front c.loop-arc.left.now (get_or ws i 0) (drop (i + 1) ws) c.in_default.ensures (c.loop-arc.invariant.0 e ∙ ap Some at))),
    )

pub returns-then-number-arc : goal.returns-then-number-arc
returns-then-number-arc c =
    let ws = c.args.wanted.now in
    let i = c.loop-arc.arc-index in
    let at = octet_at ws i (omega arith) in (
      (λ t. absurd (false≢true t)),
      (λ e. absurd (c.if-number-arc.true (front_is (arcs true c.in-Some.rest.now) c.in-Some.number (get_or ws i 0) (drop (i + 1) ws) (sym c.in-Some.ensures ∙ c.loop-arc.invariant.0 e ∙ ap Some at)))),
    )

pub loop-arc-preserved : goal.loop-arc-preserved
loop-arc-preserved c =
    let ws = c.args.wanted.now in
    let i = c.loop-arc.arc-index in
    let n = c.in-Some.number in
    let rest = arcs true c.in-Some.rest.now in
    let same : n ≡ get_or ws i 0 = omega arith in
    let at : drop i ws ≡ n ∷ drop (i + 1) ws = octet_at ws i (omega arith) ∙ ap (λ a. a ∷ drop (i + 1) ws) (sym same) in
    let front = same_front rest n (drop (i + 1) ws) in (
      (λ e. front.0 (sym c.in-Some.ensures ∙ c.loop-arc.invariant.0 e ∙ ap Some at)),
      (λ e. c.loop-arc.invariant.1 (c.in-Some.ensures ∙ front.1 e ∙ ap Some (sym at))),
    )

pub returns : goal.returns
returns c =
    let left = c.loop-arc.left.now in
    let all = drop_all c.loop-arc.arc-index c.args.wanted.now (omega arith) in (
      (λ t. let none : length left ≤ 0 = grind (arith, nat_tests, t) in c.loop-arc.invariant.1 (ap (arcs true) (none_of_length left none) ∙ ap Some (sym all))),
      (λ e. let none : left ≡ [] = no_arcs left (c.loop-arc.invariant.0 e ∙ ap Some all) in let long = ap length none in grind (arith, nat_tests)),
    )
