-- The texts of lines, and of items one after another.
use Rattle.std.proofs.Common.{◌≡◌, ℕ, ◌+◌, ◌<◌, zero, suc, List, [], ◌++◌, length, take, get_or, ap, append_assoc, arith, codes, refl, sym, ◌∙◌}
use Rattle.std.specs.List.{flat_map}
use Rattle.std.proofs.lemmas.List.{flat_map_more, take_more}
use Rattle.type_words.specs.Lines.{columns}

one_more : (n : ℕ) → columns n ++ codes "  " ≡ columns (suc n)
one_more zero = refl
one_more (suc n) =
    append_assoc (codes "  ") (columns n) (codes "  ") ∙ ap (λ (w : List ℕ). codes "  " ++ w) (one_more n)

pub columns_more : (n : ℕ) → columns n ++ codes "  " ≡ columns (n + 1)
columns_more n = let next : suc n ≡ n + 1 = omega arith in one_more n ∙ ap columns next

-- one item more
pub each_more : {X : Type 0} (f : X → List ℕ) (w : List X) (i : ℕ) (x : X) → i < length w → flat_map f (take (i + 1) w) ≡ flat_map f (take i w) ++ f (get_or w i x)
each_more f w i x h = ap (flat_map f) (take_more w i x h) ∙ sym (flat_map_more f [] (take i w) (get_or w i x))

-- one item more, that a loop has taken from the list
pub item_more : {X : Type 0} (f : X → List ℕ) (w : List X) (i : ℕ) (x : X) → i < length w → x ≡ get_or w i x → flat_map f (take i w) ++ f x ≡ flat_map f (take (i + 1) w)
item_more f w i x h is = ap (λ y. flat_map f (take i w) ++ f y) is ∙ sym (each_more f w i x h)

-- texts that are grouped to the right, and to the left
pub three : (a b c : List ℕ) → a ++ (b ++ c) ≡ a ++ b ++ c
three a b c = simp append_assoc refl

pub four : (a b c d : List ℕ) → a ++ (b ++ (c ++ d)) ≡ a ++ b ++ c ++ d
four a b c d = simp append_assoc refl

pub five : (a b c d e : List ℕ) → a ++ (b ++ (c ++ (d ++ e))) ≡ a ++ b ++ c ++ d ++ e
five a b c d e = simp append_assoc refl

pub six : (a b c d e x : List ℕ) → a ++ (b ++ (c ++ (d ++ (e ++ x)))) ≡ a ++ b ++ c ++ d ++ e ++ x
six a b c d e x = simp append_assoc refl

pub seven : (a b c d e x y : List ℕ) → a ++ (b ++ (c ++ (d ++ (e ++ (x ++ y))))) ≡ a ++ b ++ c ++ d ++ e ++ x ++ y
seven a b c d e x y = simp append_assoc refl

-- two of them in one
pub six_in_five : (a b c d e x : List ℕ) → a ++ (b ++ (c ++ ((d ++ e) ++ x))) ≡ a ++ b ++ c ++ d ++ e ++ x
six_in_five a b c d e x = simp append_assoc refl
