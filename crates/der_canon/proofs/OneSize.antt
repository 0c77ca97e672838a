-- How many octets DER has for elements is one number.
use Rattle.std.proofs.Common.{◌≡◌, ◌≢◌, ℕ, zero, suc, ◌+◌, ◌⊎◌, true, false, Option, List, [], ◌∷◌, ◌++◌, length, length-append, refl, sym, ap, subst, ◌∙◌, inl, inr, arith}
use Rattle.der_base.specs.declared.rules.Rules.TheVariants.{Der}
use Rattle.der_base.specs.Octets.{identifier}
use Rattle.der_elements.specs.Check.Elements.{AreElements}
use Rattle.der_elements.specs.Visits.{Visited}
use Rattle.der_elements.proofs.OneVisit.{visits_same}
use Rattle.der_canon.specs.Same.{content_of, is_part, parts_of}
use Rattle.der_canon.specs.Sizes.{Ends, HasSize, HasSizes, IsSizeOf, part_size, start_size, with_length, close, constructed, none, part, primitive, stay}

none_more : {X : Type 0} (ys : List X) (y : X) → [] ≡ ys ++ y ∷ [] → ⊥
none_more [] y e = cc
none_more (z ∷ ys) y e = cc

pub last_one : {X : Type 0} (xs ys : List X) (x y : X) → xs ++ x ∷ [] ≡ ys ++ y ∷ [] → (xs ≡ ys) × (x ≡ y)
last_one [] [] x y e = (refl, cc)
last_one [] (z ∷ ys) x y e = absurd (none_more ys y (cc))
last_one (z ∷ xs) [] x y e = absurd (let k : [] ≡ xs ++ x ∷ [] = cc in none_more xs x k)
last_one (z ∷ xs) (w ∷ ys) x y e =
    let first : z ≡ w = cc in
    let rest : xs ++ x ∷ [] ≡ ys ++ y ∷ [] = cc in
    let same = last_one xs ys x y rest in
    (let others : xs ≡ ys = same.0 in cc, same.1)

ends_one : (k : ℕ) (ls ks ms ns : List ℕ) (l j m n : ℕ) → Ends k ls l ms m → Ends k ks j ns n → ls ≡ ks → l ≡ j → (ms ≡ ns) × (m ≡ n)
ends_one k ls ks ms ns l j m n (stay few a b) (stay also c d) e f = (cc, cc)
ends_one k ls ks ms ns l j m n (stay few a b) (close around p c more more_ends) e f =
    absurd (omega (arith, ap length (e ∙ c), length-append around (p ∷ [])))
ends_one k ls ks ms ns l j m n (close around p c more more_ends) (stay few a b) e f =
    absurd (omega (arith, ap length (sym e ∙ c), length-append around (p ∷ [])))
ends_one k ls ks ms ns l j m n (close around p a more h) (close others q b also g) e f =
    let same = last_one around others p q (sym a ∙ e ∙ b) in
    let sum : p + with_length l ≡ q + with_length j = ap (λ x. x + with_length l) same.1 ∙ ap (λ x. q + with_length x) f in
    ends_one k around others ms ns (p + with_length l) (q + with_length j) m n h g same.0 sum

differ : {A : Type 0} → true ≡ false → A
differ e = absurd (cc)

sizes_one : (i : List ℕ) (vs us : List Visited) (s r : Option ℕ) (ms ns : List ℕ) (m n : ℕ) → HasSizes i vs s ms m → HasSizes i us r ns n → vs ≡ us
    → (s ≡ r) × (ms ≡ ns) × (m ≡ n)
sizes_one i vs us s r ms ns m n (none a b c d) (none e f g h) same = (b ∙ sym f, c ∙ sym g, d ∙ sym h)
sizes_one i vs us s r ms ns m n (none a b c d) (part before v l h in_it e f) same = absurd (none_more before v (sym a ∙ same ∙ e))
sizes_one i vs us s r ms ns m n (none a b c d) (primitive before v t ls l k h free ends plain f e g) same = absurd (none_more before v (sym a ∙ same ∙ e))
sizes_one i vs us s r ms ns m n (none a b c d) (constructed before v t ls ks l k h free ends plain f g e z) same = absurd (none_more before v (sym a ∙ same ∙ e))
sizes_one i vs us s r ms ns m n (part before v l h inner e f) (none a b c d) same = absurd (none_more before v (sym a ∙ sym same ∙ e))
sizes_one i vs us s r ms ns m n (primitive before v t ls l k h free ends plain f e g) (none a b c d) same = absurd (none_more before v (sym a ∙ sym same ∙ e))
sizes_one i vs us s r ms ns m n (constructed before v t ls ks l k h free ends plain f g e z) (none a b c d) same = absurd (none_more before v (sym a ∙ sym same ∙ e))
sizes_one i vs us s r ms ns m n (part b1 v1 l1 h1 in1 e1 f1) (part b2 v2 l2 h2 in2 e2 f2) same =
    let q = last_one b1 b2 v1 v2 (sym e1 ∙ same ∙ e2) in
    let x = sizes_one i b1 b2 s r ms ns l1 l2 h1 h2 q.0 in
    (x.0, x.1, f1 ∙ ap (λ z. z + part_size v1.constructed v1.number (content_of i v1)) x.2 ∙ ap (λ (z : Visited). l2 + part_size z.constructed z.number (content_of i z)) q.1 ∙ sym f2)
sizes_one i vs us s r ms ns m n (part b1 v1 l1 h1 in1 e1 f1) (primitive b2 v2 t2 ls2 l2 k2 h2 free2 ends2 plain2 f2 e2 g2) same =
    let q = last_one b1 b2 v1 v2 (sym e1 ∙ same ∙ e2) in
    let x = sizes_one i b1 b2 s t2 ms ls2 l1 l2 h1 h2 q.0 in
    differ (sym in1 ∙ ap (λ z. is_part z v1) x.0 ∙ ap (is_part t2) q.1 ∙ free2)
sizes_one i vs us s r ms ns m n (part b1 v1 l1 h1 in1 e1 f1) (constructed b2 v2 t2 ls2 ks2 l2 k2 h2 free2 ends2 plain2 f2 g2 e2 z2) same =
    let q = last_one b1 b2 v1 v2 (sym e1 ∙ same ∙ e2) in
    let x = sizes_one i b1 b2 s t2 ms ls2 l1 l2 h1 h2 q.0 in
    differ (sym in1 ∙ ap (λ z. is_part z v1) x.0 ∙ ap (is_part t2) q.1 ∙ free2)
sizes_one i vs us s r ms ns m n (primitive b1 v1 t1 ls1 l1 k1 h1 free1 ends1 plain1 f1 e1 g1) (part b2 v2 l2 h2 in2 e2 f2) same =
    let q = last_one b1 b2 v1 v2 (sym e1 ∙ same ∙ e2) in
    let x = sizes_one i b1 b2 t1 r ls1 ns l1 l2 h1 h2 q.0 in
    differ (sym in2 ∙ ap (is_part r) (sym q.1) ∙ ap (λ z. is_part z v1) (sym x.0) ∙ free1)
sizes_one i vs us s r ms ns m n (constructed b1 v1 t1 ls1 ks1 l1 k1 h1 free1 ends1 plain1 f1 g1 e1 z1) (part b2 v2 l2 h2 in2 e2 f2) same =
    let q = last_one b1 b2 v1 v2 (sym e1 ∙ same ∙ e2) in
    let x = sizes_one i b1 b2 t1 r ls1 ns l1 l2 h1 h2 q.0 in
    differ (sym in2 ∙ ap (is_part r) (sym q.1) ∙ ap (λ z. is_part z v1) (sym x.0) ∙ free1)
sizes_one i vs us s r ms ns m n (primitive b1 v1 t1 ls1 l1 k1 h1 free1 ends1 plain1 f1 e1 g1) (constructed b2 v2 t2 ls2 ks2 l2 k2 h2 free2 ends2 plain2 f2 g2 e2 z2) same =
    let q = last_one b1 b2 v1 v2 (sym e1 ∙ same ∙ e2) in
    differ (sym plain2 ∙ ap (λ (z : Visited). z.constructed) (sym q.1) ∙ plain1)
sizes_one i vs us s r ms ns m n (constructed b1 v1 t1 ls1 ks1 l1 k1 h1 free1 ends1 plain1 f1 g1 e1 z1) (primitive b2 v2 t2 ls2 l2 k2 h2 free2 ends2 plain2 f2 e2 g2) same =
    let q = last_one b1 b2 v1 v2 (sym e1 ∙ same ∙ e2) in
    differ (sym plain1 ∙ ap (λ (z : Visited). z.constructed) q.1 ∙ plain2)
sizes_one i vs us s r ms ns m n (primitive b1 v1 t1 ls1 l1 k1 h1 free1 ends1 plain1 f1 e1 g1) (primitive b2 v2 t2 ls2 l2 k2 h2 free2 ends2 plain2 f2 e2 g2) same =
    let q = last_one b1 b2 v1 v2 (sym e1 ∙ same ∙ e2) in
    let x = sizes_one i b1 b2 t1 t2 ls1 ls2 l1 l2 h1 h2 q.0 in
    let y = ends_one v1.depth ls1 ls2 ms ns l1 l2 k1 k2 ends1 (subst (λ (z : Visited). Ends z.depth ls2 l2 ns k2) (sym q.1) ends2) x.1 x.2 in (
      g1 ∙ ap parts_of q.1 ∙ sym g2,
      y.0,
      f1 ∙ ap (λ z. z + length (identifier v1.class v1.constructed v1.number) + with_length (length (content_of i v1))) y.1 ∙ ap (λ (z : Visited). k2 + length (identifier z.class z.constructed z.number) + with_length (length (content_of i z))) q.1 ∙ sym f2,
    )
sizes_one i vs us s r ms ns m n (constructed b1 v1 t1 ls1 ks1 l1 k1 h1 free1 ends1 plain1 f1 g1 e1 z1) (constructed b2 v2 t2 ls2 ks2 l2 k2 h2 free2 ends2 plain2 f2 g2 e2 z2) same =
    let q = last_one b1 b2 v1 v2 (sym e1 ∙ same ∙ e2) in
    let x = sizes_one i b1 b2 t1 t2 ls1 ls2 l1 l2 h1 h2 q.0 in
    let y = ends_one v1.depth ls1 ls2 ks1 ks2 l1 l2 k1 k2 ends1 (subst (λ (z : Visited). Ends z.depth ls2 l2 ks2 k2) (sym q.1) ends2) x.1 x.2 in (
      z1 ∙ ap parts_of q.1 ∙ sym z2,
      f1 ∙ ap (λ z. z ++ (k1 + length (identifier v1.class v1.constructed v1.number)) ∷ []) y.0 ∙ ap (λ z. ks2 ++ (z + length (identifier v1.class v1.constructed v1.number)) ∷ []) y.1 ∙ ap (λ (z : Visited). ks2 ++ (k2 + length (identifier z.class z.constructed z.number)) ∷ []) q.1 ∙ sym f2,
      g1 ∙ ap start_size q.1 ∙ sym g2,
    )

pub of_sizes : (i : List ℕ) (n m : ℕ) → HasSize i n → HasSize i m → n ≡ m
of_sizes i n m (vs, s, ms, rest, l, visits, sizes, ends) (us, r, ns, also, k, visits', sizes', ends') =
    let x = sizes_one i vs us s r ms ns l k sizes sizes' (visits_same visits visits' refl) in
    (ends_one 0 ms ns rest also l k n m ends ends' x.1 x.2).1

same_or_not : (n m : ℕ) → (n ≡ m) ⊎ (n ≢ m)
same_or_not zero zero = inl refl
same_or_not zero (suc m) = inr (λ e. absurd (omega arith))
same_or_not (suc n) zero = inr (λ e. absurd (omega arith))
same_or_not (suc n) (suc m) = elim (same_or_not n m) [ inl e ↦ inl (ap suc e) | inr f ↦ inr (λ e. let k : n ≡ m = omega (arith, e) in f k) ]

pub size_one : (i : List ℕ) (n m : ℕ) → IsSizeOf i n → IsSizeOf i m → n ≡ m
size_one i n m a b = elim (same_or_not n m) [
  | inl e ↦ e
  | inr f ↦ (let other : ¬ AreElements Der 101 i = (λ d. f (a.unchanged d ∙ sym (b.unchanged d))) in of_sizes i n m (a.others other) (b.others other))
]
