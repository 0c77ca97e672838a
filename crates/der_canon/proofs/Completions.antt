-- Contents that end.
use Rattle.std.proofs.Common.{◌≡◌, ℕ, ◌≤◌, List, [], ◌∷◌, ◌++◌, length, refl, sym, ap, subst, ◌∙◌, arith}
use Rattle.der_elements.specs.Visits.{Visited}
use Rattle.der_canon.specs.Contents.{Completes, Contents, Writes, WritesAll, sized, stay, close}

tail_of : {X : Type 0} (x y : X) (xs ys : List X) → x ∷ xs ≡ y ∷ ys → (x ≡ y) × (xs ≡ ys)
tail_of x y xs ys e = (cc, cc)

-- no more than so many go on
pub few_left : (k : ℕ) (xs ys : List (List ℕ)) (x y : List ℕ) → Completes k xs x ys y → length ys ≤ k
few_left k xs ys x y (stay few a b) = omega (arith, few, ap length a)
few_left k xs ys x y (close z zs e some more) = few_left k zs ys (z ++ sized x) y more

-- none of so few end
pub stays : (k : ℕ) (xs ys : List (List ℕ)) (x y : List ℕ) → length xs ≤ k → Completes k xs x ys y → (ys ≡ xs) × (y ≡ x)
stays k xs ys x y h (stay few a b) = (a, b)
stays k xs ys x y h (close z zs e some more) = absurd (omega (arith, h, ap length e, some))

-- first those with more than k around them, then others
pub onward : (j k : ℕ) (bs xs ys : List (List ℕ)) (a x y : List ℕ) → j ≤ k → Completes k bs a xs x → Completes j xs x ys y → Completes j bs a ys y
onward j k bs xs ys a x y l (stay few e f) h = subst (λ q. Completes j q a ys y) e (subst (λ q. Completes j xs q ys y) f h)
onward j k bs xs ys a x y l (close z zs e some more) h = close z zs e (omega (arith, l, some)) (onward j k zs xs ys (z ++ sized a) x y l more h)

pub through : (j k : ℕ) (bs xs ys : List (List ℕ)) (a x y : List ℕ) → j ≤ k → Completes k bs a xs x → Completes j bs a ys y → Completes j xs x ys y
through j k bs xs ys a x y l (stay few e f) h = subst (λ q. Completes j q x ys y) (sym e) (subst (λ q. Completes j bs q ys y) (sym f) h)
through j k bs xs ys a x y l (close z zs e some more) (stay few f g) = absurd (omega (arith, l, some, few, ap length e))
through j k bs xs ys a x y l (close z zs e some more) (close u us f many rest) =
    let same = tail_of z u zs us (sym e ∙ f) in
    let q : u ++ sized a ≡ z ++ sized a = ap (λ p. p ++ sized a) (sym same.0) in
    through j k zs xs ys (z ++ sized a) x y l more (subst (λ p. Completes j p (z ++ sized a) ys y) (sym same.1) (subst (λ p. Completes j us p ys y) q rest))

-- elements are written one after another
pub splits : (P : Contents → Type 0) (i : List ℕ) (s : Contents) (us ws : List Visited) (t : Contents) → WritesAll P i s (us ++ ws) t
    → (m : Contents) × WritesAll P i s us m × WritesAll P i m ws t
splits P i s [] ws t h = (s, refl, h)
splits P i s (v ∷ us) ws t (m, one, h) = let q = splits P i m us ws t h in (q.0, (m, one, q.1), q.2)

pub writes_more : (P : Contents → Type 0) (i : List ℕ) (s : Contents) (vs : List Visited) (v : Visited) (t u : Contents) → WritesAll P i s vs t → Writes P i t v u
    → WritesAll P i s (vs ++ v ∷ []) u
writes_more P i s [] v t u h one = (u, subst (λ q. Writes P i q v u) (sym h) one, refl)
writes_more P i s (x ∷ vs) v t u (m, first, h) one = (m, first, writes_more P i m vs v t u h one)
