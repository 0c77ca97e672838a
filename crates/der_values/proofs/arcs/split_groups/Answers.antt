use Rattle.std.proofs.Common.{◌≡◌, ◌∷◌, ◌+◌, ◌-◌, length, length-drop, take, drop, ap, sym, subst, ◌∙◌, arith, add-one}
use Rattle.std.proofs.lemmas.List.{take_all}
use Rattle.der_base.specs.Arcs.{subidentifiers}
use Rattle.der_values.proofs.Subidentifiers.{none_of_length}
use Rattle.der_values.proofs.WideArcs.{first_ends, none_ends, rest_is_ended}
use Rattle.der_values.proofs.arcs.split_groups.Goals as goal

pub returns-then-octet-lt128 : goal.returns-then-octet-lt128
returns-then-octet-lt128 c =
    let w = c.args.octets.now in
    let k = c.loop-index.index in
    let rest : take (length w - (k + 1)) (drop (k + 1) w) ≡ drop (k + 1) w = take_all _ _ (omega (arith, length-drop (k + 1) w)) in
    let first : subidentifiers w ≡ take (k + 1) w ∷ subidentifiers (drop (k + 1) w) =
    subst (λ n. subidentifiers w ≡ take n w ∷ subidentifiers (drop n w)) (sym (add-one k)) (first_ends w k (omega arith) c.loop-index.invariant (omega arith)) in
    let both : subidentifiers w ≡ take (k + 1) w ∷ subidentifiers (take (length w - (k + 1)) (drop (k + 1) w)) = first ∙ ap (λ v. take (k + 1) w ∷ subidentifiers v) (sym rest) in
    (both, rest_is_ended w (take (k + 1) w) (take (length w - (k + 1)) (drop (k + 1) w)) both c.requires)

pub returns : goal.returns
returns c =
    let w = c.args.octets.now in
    none_of_length w (none_ends w c.requires (λ k l. c.loop-index.invariant k (omega arith)))
