use Rattle.std.proofs.Common.{◌≡◌, ◌≤◌, ◌-◌, false, length, take, drop, get_or, Some, sym, ap, ◌∙◌, arith}
use Rattle.std.proofs.lemmas.Bool.{false≢true}
use Rattle.std.proofs.lemmas.Bool.Decides.{nat_tests}
use Rattle.der_base.specs.Arcs.{arcs}
use Rattle.der_values.proofs.Subidentifiers.{none_of_length, fewer_than_two, first_and_second, first_two, no_first_two}
use Rattle.der_values.proofs.oid.have_arcs.Goals as goal
use Rattle.der_values.proofs.oid.have_arcs.Goals.{then-own_first-first, else-own_first-first}

pub returns-then-is_empty : goal.returns-then-is_empty
returns-then-is_empty c =
    let w = c.args.octets.now in
    let wanted = c.args.wanted.now in
    let short : length wanted ≤ 0 = grind (arith, nat_tests) in
    let empty = none_of_length wanted short in (
      (λ t. let none : length w ≤ 0 = grind (arith, nat_tests, t) in ap (arcs false) (none_of_length w none) ∙ ap Some (sym empty)),
      (λ e. let long = ap length (fewer_than_two w wanted (omega arith) e).1 in grind (arith, nat_tests)),
    )

pub returns-else-is_empty : goal.returns-else-is_empty
returns-else-is_empty c =
    let w = c.args.octets.now in
    let wanted = c.args.wanted.now in (
      (λ t. absurd (false≢true (sym c.if-is_empty.false ∙ t))),
      (λ e. let long = ap length (fewer_than_two w wanted (omega arith) e).0 in absurd (grind (arith, nat_tests))),
    )

pub returns-in_default-split_subidentifier : goal.returns-in_default-split_subidentifier
returns-in_default-split_subidentifier c =
    let ws = c.args.wanted.now in
    let two = first_and_second ws c.in-len2-up.len_at_least in (
      (λ t. absurd (false≢true t)),
      (λ e. absurd (no_first_two c.args.octets.now _ _ _ (c.in_default-split_subidentifier.ensures) (e ∙ ap Some two))),
    )

pub returns-then-own_second-second : goal.returns-then-own_second-second
returns-then-own_second-second c =
    let ws = c.args.wanted.now in
    let two = first_and_second ws c.in-len2-up.len_at_least in
    let own = c.first_arcs-own_first.result in
    let f = first_two c.args.octets.now c.in-Some.rest.now (take (length ws - 2) (drop 2 ws)) c.in-Some.number own.0 own.1 (get_or ws 0 0) (get_or ws 1 0) c.in-Some.ensures c.first_arcs-own_first.ensures in
    elim c.if-own_first-first.branch [
      | then-own_first-first v ↦ (
          let first : own.0 ≡ get_or ws 0 0 = omega arith in
          let second : own.1 ≡ get_or ws 1 0 = grind (arith, nat_tests) in (
            (λ t. f.1 (first, second, c.have_further_arcs.ensures.0 t) ∙ ap Some (sym two)),
            (λ e. c.have_further_arcs.ensures.1 (f.0 (e ∙ ap Some two)).2),
          ))
      | else-own_first-first v ↦ absurd (grind (arith, nat_tests))
    ]

pub returns-else-own_second-second : goal.returns-else-own_second-second
returns-else-own_second-second c =
    let ws = c.args.wanted.now in
    let two = first_and_second ws c.in-len2-up.len_at_least in
    let own = c.first_arcs-own_first.result in
    let f = first_two c.args.octets.now c.in-Some.rest.now (take (length ws - 2) (drop 2 ws)) c.in-Some.number own.0 own.1 (get_or ws 0 0) (get_or ws 1 0) c.in-Some.ensures c.first_arcs-own_first.ensures in (
      (λ t. absurd (false≢true (sym c.if-own_second-second.false ∙ t))),
      (λ e.
          let same = f.0 (e ∙ ap Some two) in
          elim c.if-own_first-first.branch [
            | then-own_first-first v ↦ absurd (let second : own.1 ≡ get_or ws 1 0 = same.1 in grind (arith, nat_tests))
            | else-own_first-first v ↦ absurd (let first : own.0 ≡ get_or ws 0 0 = same.0 in omega arith)
          ]),
    )
