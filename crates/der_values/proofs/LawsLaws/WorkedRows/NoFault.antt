use Rattle.std.proofs.Common.{◌≡◌, ℕ, ◌+◌, ◌%◌, ◌^◌, ◌<◌, Bool, true, false, List, [], ◌∷◌, ◌++◌, length, refl, sym, subst, lit<, lit≤, inl, inr, length-append, append_assoc, ◌∙◌, arith}
use Rattle.der_base.specs.declared.header.Class.TheVariants.{Universal}
use Rattle.der_base.specs.declared.error.Needed.TheVariants.{Size}
use Rattle.der_base.specs.Octets.{identifier, leading_bits}
use Rattle.der_base.specs.Tree.{no_nodes}
use Rattle.der_base.specs.Refusal.{Refusal, incomplete}
use Rattle.der_base.specs.LeafRefusal.{BerLeafRefuses}
use Rattle.der_base.specs.Spelling.{BeginsWithElement, no_forms}
use Rattle.der_base.specs.Cut.{IsCut, Lacks, in_content}
use Rattle.der_base.specs.Fault.{ShowsFault, BerHeaderRefuses, HasBadTag, HasIdentifier}
use Rattle.der_values.proofs.LawsLaws.Octets.ShortIdentifiers.{short_identifier}

pub no_bad_tag : (b : ℕ) (w : List ℕ) → b % 32 < 31 → HasBadTag (b ∷ w) → ⊥
no_bad_tag b w h (a, b', bs, r, e, m, _, _) =
    let q : b ≡ a = cc in
    let g : a % 32 < 31 = subst (λ z. z % 32 < 31) q h in
    let k : 31 < 31 = subst (λ z. z < 31) m g in
    omega arith

pub behind : (b : ℕ) (w s : List ℕ) (p : Bool) → b % 32 < 31 → HasIdentifier (b ∷ w) p s → s ≡ w
behind b w s p h (c, t, _, e) = (short_identifier c p t s b w (sym e) h).2

header_fine : (b n : ℕ) (w : List ℕ) (e : Refusal) → b % 32 < 31 → n < 128 → BerHeaderRefuses (b ∷ n ∷ w) e → ⊥
header_fine b n w e h l (inl x) = no_bad_tag b (n ∷ w) h x.0
header_fine b n w e h l (inr (p, s, i, inl ((r, q), _))) =
    let f : s ≡ n ∷ w = behind b (n ∷ w) s p h i in
    let g : n ≡ 255 = cc in
    omega arith
header_fine b n w e h l (inr (p, s, i, inr (inl ((c, bs, r, q, lo, _, _, _), _)))) =
    let f : s ≡ n ∷ w = behind b (n ∷ w) s p h i in
    let g : n ≡ c = cc in
    omega arith
header_fine b n w e h l (inr (p, s, i, inr (inr ((r, q), _, _)))) =
    let f : s ≡ n ∷ w = behind b (n ∷ w) s p h i in
    let g : n ≡ 128 = cc in
    omega arith

assoc4 : (x a b c : List ℕ) → x ++ a ++ b ++ c ≡ x ++ (a ++ (b ++ c))
assoc4 x a b c = append_assoc (x ++ a) b c ∙ append_assoc x a (b ++ c)

short_element : (b n : ℕ) (w : List ℕ) (k : ℕ) (p : Bool) (t : ℕ) (v rest : List ℕ) → b % 32 < 31 → n < 128 → BeginsWithElement (b ∷ n ∷ w) k Universal p t v rest
    → (t < 31) × (b ≡ leading_bits Universal p + t) × (w ≡ v ++ rest) × (length v ≡ n)
short_element b n w k p t v rest h l (_, _, inl ([], x, e)) = absurd x.1
short_element b n w k p t v rest h l (_, _, inl (c ∷ cs, (_, inl (c1, c2, c3)), e)) =
    let f = short_identifier Universal p t ((c ∷ cs) ++ (v ++ rest)) b (n ∷ w) (sym (e ∙ assoc4 (identifier Universal p t) (c ∷ cs) v rest)) h in
    let g : (c ∷ cs) ++ (v ++ rest) ≡ n ∷ w = f.2 in
    let g' : c ∷ (v ++ rest) ≡ n ∷ w = subst (λ z. (c ∷ z) ++ (v ++ rest) ≡ n ∷ w) c2 g in
    (f.0, f.1, cc, cc)
short_element b n w k p t v rest h l (_, _, inl (c ∷ cs, (_, inr (c1, c2, c3, c4)), e)) =
    let f = short_identifier Universal p t ((c ∷ cs) ++ (v ++ rest)) b (n ∷ w) (sym (e ∙ assoc4 (identifier Universal p t) (c ∷ cs) v rest)) h in
    let g : (c ∷ cs) ++ (v ++ rest) ≡ n ∷ w = f.2 in
    let q : c ≡ n = cc in
    let z : ⊥ = omega arith in absurd z
short_element b n w k p t v rest h l (_, _, inr (_, _, _, e)) =
    let f = short_identifier Universal p t ((128 ∷ v) ++ ((0 ∷ 0 ∷ []) ++ rest)) b (n ∷ w) (sym (e ∙ assoc4 (identifier Universal p t) (128 ∷ v) (0 ∷ 0 ∷ []) rest)) h in
    let g : (128 ∷ v) ++ ((0 ∷ 0 ∷ []) ++ rest) ≡ n ∷ w = f.2 in
    let q : 128 ≡ n = cc in
    let z : ⊥ = omega arith in absurd z

-- an integer that is cut shows no fault
pub cut_integer_fine : (x : Refusal) → ShowsFault 1 (2 ∷ 3 ∷ 1 ∷ 0 ∷ []) x → ⊥
cut_integer_fine x (inl y) = header_fine 2 3 (1 ∷ 0 ∷ []) x (lit< tt) (lit< tt) y
cut_integer_fine x (inr (inl (c, t, v, _, e, _))) =
    let f = short_identifier c true t (128 ∷ v) 2 (3 ∷ 1 ∷ 0 ∷ []) (sym e) (lit< tt) in
    let g : 128 ∷ v ≡ 3 ∷ 1 ∷ 0 ∷ [] = f.2 in cc
cut_integer_fine x (inr (inr (p, t, w, rest, i, _, _))) =
    let f = short_element 2 3 (1 ∷ 0 ∷ []) 50 p t w rest (lit< tt) (lit< tt) i in
    let one : List ℕ = 1 ∷ 0 ∷ [] in
    let g : length one ≡ length w + length rest = subst (λ z. length z ≡ length w + length rest) (sym f.2) (length-append w rest) in
    let g' : 2 ≡ length w + length rest = g in
    let k : length w ≡ 3 = f.3 in
    omega arith

pub is_cut : IsCut (2 ∷ 3 ∷ 1 ∷ 0 ∷ [])
unfolding identifier
is_cut = (0 ∷ [], (λ e. cc), (Universal, false, 2, 1 ∷ 0 ∷ 0 ∷ [], inl (3 ∷ [], inl (lit< tt, refl, refl), refl)))

lacks_one : Lacks (2 ∷ 3 ∷ 1 ∷ 0 ∷ []) 1
unfolding identifier
lacks_one = in_content Universal false 2 (3 ∷ []) (1 ∷ 0 ∷ []) (lit≤ tt) (inl (lit< tt, refl, refl)) refl

-- 30 04 02 03 01 00 shows incomplete(1)
refuse_cut_item : ShowsFault 2 (0x30 ∷ 4 ∷ 2 ∷ 3 ∷ 1 ∷ 0 ∷ []) (incomplete (Size 1))
unfolding identifier
refuse_cut_item =
    inr (inr (
      true,
      16,
      2 ∷ 3 ∷ 1 ∷ 0 ∷ [],
      [],
      (lit< tt, lit≤ tt, inl (4 ∷ [], (lit< tt, inl (lit< tt, refl, refl)), refl)),
      refl,
      inr (refl, refl, no_nodes, no_forms, [], 2 ∷ 3 ∷ 1 ∷ 0 ∷ [], refl, refl, ((λ e. cc), inr (1, is_cut, lacks_one, cut_integer_fine, refl))),
    ))

precedence_power : 2 % 2 ^ 2 ≡ 2
precedence_power = refl

pub nothing : (w rest : List ℕ) → [] ≡ w ++ rest → w ≡ []
nothing [] rest e = refl
nothing (x ∷ w) rest e = absurd cc

pub nothing_behind : (u r : List ℕ) → [] ≡ u ++ r → r ≡ []
nothing_behind [] r e = sym e
nothing_behind (x ∷ u) r e = absurd cc

no_leaf : (e : Refusal) → BerLeafRefuses true 16 [] e → ⊥
no_leaf e (inl (q, _)) = cc
no_leaf e (inr (_, z)) = z

pub is_16 : (p : Bool) (t : ℕ) → t < 31 → 0x30 ≡ leading_bits Universal p + t → (p ≡ true) × (t ≡ 16)
is_16 true t h e = (refl, omega arith)
is_16 false t h e = let z : ⊥ = omega arith in absurd z

-- an empty list shows no fault at depth 1
pub empty_list_fine : (e : Refusal) → ShowsFault 1 (0x30 ∷ 0 ∷ []) e → ⊥
empty_list_fine e (inl y) = header_fine 0x30 0 [] e (lit< tt) (lit< tt) y
empty_list_fine e (inr (inl (c, t, v, _, q, _))) =
    let f = short_identifier c true t (128 ∷ v) 0x30 (0 ∷ []) (sym q) (lit< tt) in
    let g : 128 ∷ v ≡ 0 ∷ [] = f.2 in cc
empty_list_fine e (inr (inr (p, t, w, rest, i, m, inl x))) =
    let f = short_element 0x30 0 [] 50 p t w rest (lit< tt) (lit< tt) i in
    let k = is_16 p t f.0 f.1 in
    let x1 : BerLeafRefuses true t w e = subst (λ z. BerLeafRefuses z t w e) k.0 x in
    let x2 : BerLeafRefuses true 16 w e = subst (λ z. BerLeafRefuses true z w e) k.1 x1 in
    no_leaf e (subst (λ z. BerLeafRefuses true 16 z e) (nothing w rest f.2) x2)
empty_list_fine e (inr (inr (p, t, w, rest, i, m, inr (_, _, l, fs, u, r, q, _, (ne, _))))) =
    let f = short_element 0x30 0 [] 50 p t w rest (lit< tt) (lit< tt) i in
    ne (nothing_behind u r (sym (nothing w rest f.2) ∙ q))
