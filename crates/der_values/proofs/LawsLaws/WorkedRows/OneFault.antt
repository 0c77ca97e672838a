use Rattle.std.proofs.Common.{◌≡◌, ◌⊎◌, ◌∙◌, ℕ, ◌+◌, ◌%◌, ◌<◌, ◌≤◌, Bool, true, false, List, [], ◌∷◌, ◌++◌, length}
use Rattle.std.proofs.Common.{refl, sym, ap, subst, lit<, lit≤, inl, inr, nat_lt, if◌then◌else◌, length-append}
use Rattle.std.proofs.Common.{append_assoc, arith, IsTrue, ltb-false}
use Rattle.der_base.specs.declared.header.Class.TheVariants.{Universal}
use Rattle.der_base.specs.declared.error.Needed.TheVariants.{Size}
use Rattle.der_base.specs.Octets.{identifier, shortest_length, octets}
use Rattle.der_base.specs.Tree.{no_nodes, Nodes}
use Rattle.der_base.specs.Refusal.{Refusal, incomplete}
use Rattle.der_base.specs.Leaf.{is_list}
use Rattle.der_base.specs.LeafRefusal.{DerLeafRefuses}
use Rattle.der_base.specs.Cut.{DerLacks, der_in_universal}
use Rattle.der_base.specs.Fault.{DerShowsFault, DerJoins, ItemRefuses, DerHeaderRefuses}
use Rattle.der_values.proofs.LawsLaws.Octets.ShortIdentifiers.{short_identifier}
use Rattle.der_values.proofs.LawsLaws.WorkedRows.NoFault.{no_bad_tag, behind, is_cut, nothing, nothing_behind, is_16}

-- what stands in front of one octet below 128 is a length of one octet
lead : (m n : ℕ) (v w : List ℕ) → n < 128 → shortest_length m ++ v ≡ n ∷ w → (m ≡ n) × (v ≡ w) × (shortest_length m ≡ m ∷ [])
unfolding shortest_length
lead m n v w l e = go (nat_lt m 128) refl e
  where
    go : (x : Bool) → nat_lt m 128 ≡ x → (if x then m ∷ [] else (128 + length (octets m)) ∷ octets m) ++ v ≡ n ∷ w
        → (m ≡ n) × (v ≡ w) × ((if nat_lt m 128 then m ∷ [] else (128 + length (octets m)) ∷ octets m) ≡ m ∷ [])
    go true q f = (cc, cc, ap (λ (y : Bool). if y then m ∷ [] else (128 + length (octets m)) ∷ octets m) q)
    go false q f =
        let h : 128 + length (octets m) ≡ n = cc in
        let z : ⊥ = omega arith in absurd z

shortest_small : (n : ℕ) → n < 128 → shortest_length n ≡ n ∷ []
unfolding shortest_length
shortest_small n l = go (nat_lt n 128) refl
  where
    go : (x : Bool) → nat_lt n 128 ≡ x → (if nat_lt n 128 then n ∷ [] else (128 + length (octets n)) ∷ octets n) ≡ n ∷ []
    go true q = ap (λ (y : Bool). if y then n ∷ [] else (128 + length (octets n)) ∷ octets n) q
    go false q =
        let big : 128 ≤ n = ltb-false n 128 q in
        let z : ⊥ = omega arith in absurd z

der_header_fine : (b n : ℕ) (w : List ℕ) (e : Refusal) → b % 32 < 31 → n < 128 → DerHeaderRefuses (b ∷ n ∷ w) e → ⊥
der_header_fine b n w e h l (inl x) = no_bad_tag b (n ∷ w) h x.0
der_header_fine b n w e h l (inr (p, s, i, inl ((r, q), _))) =
    let f : s ≡ n ∷ w = behind b (n ∷ w) s p h i in
    let g : n ≡ 255 = cc in
    omega arith
der_header_fine b n w e h l (inr (p, s, i, inr (inl ((c, bs, r, q, lo, _, _, _), _)))) =
    let f : s ≡ n ∷ w = behind b (n ∷ w) s p h i in
    let g : n ≡ c = cc in
    omega arith
der_header_fine b n w e h l (inr (p, s, i, inr (inr (inl ((r, q), _))))) =
    let f : s ≡ n ∷ w = behind b (n ∷ w) s p h i in
    let g : n ≡ 128 = cc in
    omega arith
der_header_fine b n w e h l (inr (p, s, i, inr (inr (inr (([], r, m, q, x, ne), _))))) = x.1
der_header_fine b n w e h l (inr (p, s, i, inr (inr (inr ((c ∷ cs, r, m, q, (_, inl (c1, c2, c3)), ne), _))))) =
    let one : c ∷ cs ≡ c ∷ [] = ap (λ z. c ∷ z) c2 in
    let two : shortest_length m ≡ c ∷ [] = subst (λ z. shortest_length z ≡ c ∷ []) (sym c3) (shortest_small c c1) in
    ne (one ∙ sym two)
der_header_fine b n w e h l (inr (p, s, i, inr (inr (inr ((c ∷ cs, r, m, q, (_, inr (c1, c2, c3, c4)), ne), _))))) =
    let f : s ≡ n ∷ w = behind b (n ∷ w) s p h i in
    let g : n ≡ c = cc in
    omega arith

nest : (x a b c : List ℕ) → (x ++ a ++ b) ++ c ≡ x ++ (a ++ (b ++ c))
nest x a b c = append_assoc (x ++ a) b c ∙ append_assoc x a (b ++ c)

pub der_cut_integer_fine : (x : Refusal) → DerShowsFault 1 (2 ∷ 3 ∷ 1 ∷ 0 ∷ []) x → ⊥
der_cut_integer_fine x (inl y) = der_header_fine 2 3 (1 ∷ 0 ∷ []) x (lit< tt) (lit< tt) y
der_cut_integer_fine x (inr (inl (c, p, t, m, r, _, e, _, big, _))) =
    let f = short_identifier c p t (shortest_length m ++ r) 2 (3 ∷ 1 ∷ 0 ∷ []) (sym (e ∙ append_assoc (identifier c p t) (shortest_length m) r)) (lit< tt) in
    let g = lead m 3 r (1 ∷ 0 ∷ []) (lit< tt) f.2 in
    let k : m ≡ 3 = g.0 in
    omega arith
der_cut_integer_fine x (inr (inr (p, t, w, rest, _, e, _, _, _))) =
    let f = short_identifier Universal p t (shortest_length (length w) ++ (w ++ rest)) 2 (3 ∷ 1 ∷ 0 ∷ []) (sym (e ∙ nest (identifier Universal p t) (shortest_length (length w)) w rest)) (lit< tt) in
    let g = lead (length w) 3 (w ++ rest) (1 ∷ 0 ∷ []) (lit< tt) f.2 in
    let two : List ℕ = 1 ∷ 0 ∷ [] in
    let k : length (w ++ rest) ≡ length two = ap length g.1 in
    let k' : length two ≡ 2 = refl in
    let a : length (w ++ rest) ≡ length w + length rest = length-append w rest in
    let b : length w ≡ 3 = g.0 in
    omega arith

der_lacks_three : DerLacks (2 ∷ 3 ∷ 1 ∷ 0 ∷ []) 3
unfolding identifier
der_lacks_three = der_in_universal false 2 (3 ∷ []) (1 ∷ 0 ∷ []) (lit< tt) (inl (lit< tt, refl, refl)) refl

-- 30 04 02 03 01 00 by DER shows incomplete(3)
der_cut_item : DerShowsFault 2 (0x30 ∷ 4 ∷ 2 ∷ 3 ∷ 1 ∷ 0 ∷ []) (incomplete (Size 3))
unfolding identifier shortest_length
der_cut_item =
    inr (inr (
      true,
      16,
      2 ∷ 3 ∷ 1 ∷ 0 ∷ [],
      [],
      lit< tt,
      refl,
      lit≤ tt,
      refl,
      inr (
        refl,
        refl,
        no_nodes,
        [],
        2 ∷ 3 ∷ 1 ∷ 0
            ∷ [],
        refl,
        refl,
        ((λ e. cc), inr (3, is_cut, der_lacks_three, der_cut_integer_fine, refl)),
      ),
    ))

no_der_leaf : (e : Refusal) → DerLeafRefuses true 16 [] e → ⊥
no_der_leaf e (_, inl (q, _)) = cc
no_der_leaf e (_, inr (_, z)) = z

-- an empty list shows no DER fault at depth 1
pub der_empty_list_fine : (e : Refusal) → DerShowsFault 1 (0x30 ∷ 0 ∷ []) e → ⊥
der_empty_list_fine x (inl y) = der_header_fine 0x30 0 [] x (lit< tt) (lit< tt) y
der_empty_list_fine x (inr (inl (c, p, t, m, r, _, e, _, big, _))) =
    let f = short_identifier c p t (shortest_length m ++ r) 0x30 (0 ∷ []) (sym (e ∙ append_assoc (identifier c p t) (shortest_length m) r)) (lit< tt) in
    let g = lead m 0 r [] (lit< tt) f.2 in
    let k : m ≡ 0 = g.0 in
    omega arith
der_empty_list_fine x (inr (inr (p, t, w, rest, _, e, _, _, y))) =
    let f = short_identifier Universal p t (shortest_length (length w) ++ (w ++ rest)) 0x30 (0 ∷ []) (sym (e ∙ nest (identifier Universal p t) (shortest_length (length w)) w rest)) (lit< tt) in
    let g = lead (length w) 0 (w ++ rest) [] (lit< tt) f.2 in
    let none : w ≡ [] = nothing w rest (sym g.1) in
    let k = is_16 p t f.0 f.1 in
    go none k y
  where
    go : w ≡ [] → (p ≡ true) × (t ≡ 16) → DerLeafRefuses p t w x ⊎ (IsTrue (is_list t) × (p ≡ true) × (l : Nodes) × (u r : List ℕ) × (w ≡ u ++ r) × DerJoins u l 0
        × ItemRefuses (DerShowsFault 0) DerLacks r x) → ⊥
    go none k (inl y1) =
        let y2 : DerLeafRefuses true t w x = subst (λ z. DerLeafRefuses z t w x) k.0 y1 in
        let y3 : DerLeafRefuses true 16 w x = subst (λ z. DerLeafRefuses true z w x) k.1 y2 in
        no_der_leaf x (subst (λ z. DerLeafRefuses true 16 z x) none y3)
    go none k (inr (_, _, l, u, r, q, _, (ne, _))) = ne (nothing_behind u r (sym none ∙ q))
