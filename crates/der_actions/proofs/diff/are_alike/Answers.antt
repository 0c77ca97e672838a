use Rattle.std.proofs.Common.{◌≡◌, ◌∙◌, ◌+◌, ◌<◌, List, ap, arith, false, get_or, length, refl, rules, sym, take, true, ℕ}
use Rattle.std.specs.Prelude.{map}
use Rattle.std.proofs.lemmas.List.{get_or-map, length-map, take_more_same}
use Rattle.der_actions.specs.declared.diff.NamedElement.{NamedElement}
use Rattle.der_actions.specs.Differences.{compared}
use Rattle.der_actions.proofs.diff.are_alike.Goals as goal

no_truth : {P : Type 0} → false ≡ true → P
no_truth e = cc

-- one more pair is alike
one_more : (xs ys : List NamedElement) (i : ℕ) (x y : NamedElement) → i < length xs → i < length ys → compared (get_or xs i x) ≡ compared (get_or ys i y)
    → take i (map compared xs) ≡ take i (map compared ys) → take (i + 1) (map compared xs) ≡ take (i + 1) (map compared ys)
one_more xs ys i x y m n alike before =
    take_more_same (map compared xs) (map compared ys) i (compared x) (omega (arith, m, length-map xs compared)) (omega (arith, n, length-map ys compared)) before
    (get_or-map compared xs i x (compared x) m ∙ alike ∙ sym (get_or-map compared ys i y (compared x) n))

-- a pair of lists that are alike
pair : (xs ys : List NamedElement) (i : ℕ) (x y : NamedElement) → i < length xs → i < length ys → map compared xs ≡ map compared ys
    → compared (get_or xs i x) ≡ compared (get_or ys i y)
pair xs ys i x y m n alike =
    sym (get_or-map compared xs i x (compared x) m) ∙ ap (λ zs. get_or zs i (compared x)) alike ∙ get_or-map compared ys i y (compared x) n

pub loop-index-preserved : goal.loop-index-preserved
loop-index-preserved c = record {
  alike = one_more c.args.old.now c.args.new.now c.loop-index.index _ _ (search rules) (search rules) (c.if-not-is_alike.ensures.0 refl) c.loop-index.invariant.alike;
}

pub returns-then-not-is_alike : goal.returns-then-not-is_alike
returns-then-not-is_alike c =
    (λ t. no_truth t, λ alike. c.if-not-is_alike.ensures.1 (pair c.args.old.now c.args.new.now c.loop-index.index _ _ (search rules) (search rules) alike))
