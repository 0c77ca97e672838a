use Rattle.std.proofs.Common.{◌≡◌, ℕ, ◌+◌, ◌-◌, ◌*◌, ◌^◌, ◌<◌, true, List, ◌∷◌, length, length-drop, take, drop, get_or, sym, ap, ◌∙◌, ⊎_elim, inl, inr, arith, add-one}
use Rattle.std.specs.Option.{option_map}
use Rattle.std.proofs.Math.Nat.{pow-suc}
use Rattle.std.proofs.lemmas.Bool.{cases_lt}
use Rattle.std.proofs.lemmas.List.{drop_all, take_all}
use Rattle.der_base.specs.Arcs.{arcs, subidentifiers}
use Rattle.der_base.proofs.Oids.Arcs.{octet_at}
use Rattle.der_values.proofs.Subidentifiers.{numbers_after, numbers_start, numbers_last, numbers_more, too_long, cut_short, few_groups, none_of_length}
use Rattle.der_values.proofs.oid.split_subidentifier.Goals as goal

-- the octet that is read next
ahead : (w : List ℕ) (k n : ℕ) → k < length w → numbers_after k n (subidentifiers (get_or w k 0 ∷ drop (k + 1) w)) ≡ numbers_after k n (subidentifiers (drop k w))
ahead w k n within = ap (λ l. numbers_after k n (subidentifiers l)) (sym (octet_at w k within))

pub loop-index-init : goal.loop-index-init
loop-index-init c = record { left = numbers_start c.args.octets.now; few = omega arith; small = omega arith }

pub overflow_mul-number : goal.overflow_mul-number
overflow_mul-number c = omega (arith, few_groups c.loop-index.index c.loop-index.number c.loop-index.invariant.small (omega arith))

pub overflow_add-number : goal.overflow_add-number
overflow_add-number c = omega (arith, c.from.ensures, few_groups c.loop-index.index c.loop-index.number c.loop-index.invariant.small (omega arith))

pub returns-then-index-eq-MOST_OCTETS : goal.returns-then-index-eq-MOST_OCTETS
returns-then-index-eq-MOST_OCTETS c =
    let w = c.args.octets.now in
    let k = c.loop-index.index in
    let n = c.loop-index.number in
    let e : k ≡ 9 = omega arith in
    inr (sym c.loop-index.invariant.left ∙ ap (λ j. numbers_after j n (subidentifiers (drop k w))) e ∙ too_long n (drop k w))

pub returns-then-octet-lt128 : goal.returns-then-octet-lt128
returns-then-octet-lt128 c =
    let w = c.args.octets.now in
    let k = c.loop-index.index in
    let n = c.loop-index.number in
    let rest : take (length w - (k + 1)) (drop (k + 1) w) ≡ drop (k + 1) w = take_all _ _ (omega (arith, length-drop (k + 1) w)) in
    sym c.loop-index.invariant.left ∙ sym (ahead w k n (omega arith)) ∙ numbers_last k n (get_or w k 0) (drop (k + 1) w) (omega arith) (omega arith)
    ∙ ap (λ v. option_map (λ further. (n * 128 + v) ∷ further) (arcs true (drop (k + 1) w))) (sym c.from.ensures)
    ∙ ap (λ l. option_map (λ further. (n * 128 + c.from.result) ∷ further) (arcs true l)) (sym rest)

pub loop-index-preserved : goal.loop-index-preserved
loop-index-preserved c =
    let w = c.args.octets.now in
    let k = c.loop-index.index in
    let n = c.loop-index.number in
    let b = get_or w k 0 in
    record {
      left =
          ap (λ v. numbers_after (k + 1) (n * 128 + v) (subidentifiers (drop (k + 1) w))) c.from.ensures ∙ sym (numbers_more k n b (drop (k + 1) w) (omega arith))
          ∙ ahead w k n (omega arith) ∙ c.loop-index.invariant.left;
      few = omega arith;
      small = omega (arith, c.from.ensures, c.loop-index.invariant.small, ap (λ m. 128 ^ m) (add-one k), pow-suc 128 k);
    }

pub returns : goal.returns
returns c =
    let w = c.args.octets.now in
    let k = c.loop-index.index in
    let n = c.loop-index.number in
    let e = drop_all k w (omega arith) in
    ⊎_elim
    (λ none. inl (none_of_length w (omega arith)))
    (λ some. inr (sym c.loop-index.invariant.left ∙ ap (λ l. numbers_after k n (subidentifiers l)) e ∙ cut_short k n (omega arith)))
    (cases_lt k 1)
