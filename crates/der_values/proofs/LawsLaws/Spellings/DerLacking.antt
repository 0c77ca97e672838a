-- An input that is cut short lacks one number of octets, as DER tells it; and where the reader of a header or of a content finds it cut short, it is.
use Rattle.std.proofs.Common.{◌≡◌, ◌≢◌, ℕ, ◌+◌, ◌-◌, ◌<◌, Bool, List, [], ◌∷◌, ◌++◌, length, refl, sym, ap, subst, ◌∙◌, arith, append_assoc, length-append, ◌⊎◌, inl, inr}
use Rattle.der_base.specs.declared.header.Class.{Class}
use Rattle.der_base.specs.declared.header.Class.TheVariants.{Universal}
use Rattle.der_base.specs.Cut.{IsCut, DerLacks, der_in_identifier, der_in_length, der_in_universal, der_in_content}
use Rattle.der_base.specs.Headers.{BeginsWithDerHeader, HeaderLacks, in_identifier, in_length, DerHeaderLacks}
use Rattle.der_base.specs.LengthOctets.{LengthLacks, before_length, in_length as in_length_octets}
use Rattle.der_base.specs.Octets.{identifier, shortest_length, SpellsAnyLength}
use Rattle.der_base.proofs.Framing.FramingCuts.{header_cut}
use Rattle.der_base.proofs.Headers.HeaderLaws.{lacks_length, header_lacks_same}
use Rattle.der_base.proofs.Octets.Identifiers.{head_same, identifier_same}
use Rattle.der_base.proofs.Framing.Shapes.{any_length_same}
use Rattle.der_base.proofs.Octets.ShortestLengths.{shortest_spells}
use Rattle.der_base.proofs.Octets.LengthOctets.{zeros}

-- an element of definite length m that ends within its content, of which v is there
record EndsInContent (i : List ℕ) (c : Class) (p : Bool) (t m : ℕ) (s v : List ℕ) : Type 0 where
  octets : i ≡ identifier c p t ++ (s ++ v)
  spelled : SpellsAnyLength s m
  short : length v < m

-- how many octets are told there
abbrev Tells : Class → ℕ → ℕ → ℕ → Type 0
Tells c m k n = ((c ≡ Universal) × (n ≡ m)) ⊎ ((c ≢ Universal) × (k + n ≡ m))

abbrev LacksContent : List ℕ → ℕ → Type 0
LacksContent i n = (c : Class) × (p : Bool) × (t m : ℕ) × (s v : List ℕ) × EndsInContent i c p t m s v × Tells c m (length v) n

where_it_ends : {i : List ℕ} {n : ℕ} → DerLacks i n → HeaderLacks i n ⊎ LacksContent i n
where_it_ends (der_in_identifier c p t r e) = inl (in_identifier c p t r e)
where_it_ends (der_in_length c p t b bs h h1 hb e) = inl (in_length c p t b bs h h1 hb e)
where_it_ends (der_in_universal {n = n} p t s v h hs e) =
    inr (Universal, p, t, n, s, v, record { octets = e ∙ append_assoc (identifier Universal p t) s v; spelled = hs; short = h }, inl (refl, refl))
where_it_ends (der_in_content {n = n} c p t s v hc h1 hs e) =
    inr (c, p, t, length v + n, s, v, record { octets = e ∙ append_assoc (identifier c p t) s v; spelled = hs; short = omega (arith, h1) }, inr (hc, refl))

-- octets that spell a length are whole
whole_length : (s w v : List ℕ) (m n : ℕ) → s ≡ w ++ v → SpellsAnyLength w m → LengthLacks s n → ⊥
whole_length s [] v m n e h l = h
whole_length s (b ∷ bs) v m n e h (before_length z o) = let x = sym e ∙ z in cc
whole_length s (b ∷ bs) v m n e (inl h) (in_length_octets b' bs' h' h1 hb z) = let q = head_same (sym e ∙ z) in omega (arith, h.0, q.0, hb, h1)
whole_length s (b ∷ bs) v m n e (inr h) (in_length_octets b' bs' h' h1 hb z) = let q = head_same (sym e ∙ z) in omega (arith, h.1, q.0, ap length q.1, length-append bs v, hb, h1)

header_or_content : {i : List ℕ} {n n' : ℕ} → HeaderLacks i n → LacksContent i n' → ⊥
header_or_content {n = n} h (c, p, t, m, s, v, g, k) = whole_length (s ++ v) s v m n refl g.spelled (lacks_length h (s ++ v) c p t g.octets)

told_once : (c c' : Class) (m m' k k' n n' : ℕ) → c ≡ c' → m ≡ m' → k ≡ k' → Tells c m k n → Tells c' m' k' n' → n ≡ n'
told_once c c' m m' k k' n n' ec em ek (inl h) (inl h') = h.1 ∙ em ∙ sym h'.1
told_once c c' m m' k k' n n' ec em ek (inl h) (inr h') = absurd (h'.0 (sym ec ∙ h.0))
told_once c c' m m' k k' n n' ec em ek (inr h) (inl h') = absurd (h.0 (ec ∙ h'.0))
told_once c c' m m' k k' n n' ec em ek (inr h) (inr h') = omega (arith, em, ek, h.1, h'.1)

content_lacks_same : (i : List ℕ) (n n' : ℕ) → LacksContent i n → LacksContent i n' → n ≡ n'
content_lacks_same i n n' (c, p, t, m, s, v, g, k) (c', p', t', m', s', v', g', k') =
    let a = identifier_same c c' p p' t t' (s ++ v) (s' ++ v') (sym g.octets ∙ g'.octets) in
    let l = any_length_same s s' m m' v v' g.spelled g'.spelled a.3 in
    told_once c c' m m' (length v) (length v') n n' a.0 l.1 (ap length l.2) k k'

-- How many octets are lacking is one number.
pub der_lacks_same : (i : List ℕ) (n n' : ℕ) → DerLacks i n → DerLacks i n' → n ≡ n'
der_lacks_same i n n' h h' = same (where_it_ends h) (where_it_ends h')
  where
    same : HeaderLacks i n ⊎ LacksContent i n → HeaderLacks i n' ⊎ LacksContent i n' → n ≡ n'
    same (inl a) (inl b) = header_lacks_same i n n' a b
    same (inl a) (inr b) = absurd (header_or_content a b)
    same (inr a) (inl b) = absurd (header_or_content b a)
    same (inr a) (inr b) = content_lacks_same i n n' a b

-- what a reader meets

-- an input that ends in an element of definite length is cut short
ends_in_content : (i : List ℕ) (c : Class) (p : Bool) (t m : ℕ) (s v : List ℕ) → EndsInContent i c p t m s v → IsCut i
ends_in_content i c p t m s v h =
    let z = zeros (m - length v) in
    let l : m ≡ length (v ++ z.0) = omega (arith, z.1, h.short, length-append v z.0) in
    let a = identifier c p t in
    let o = ap (λ x. x ++ z.0) (h.octets ∙ sym (append_assoc a s v)) ∙ append_assoc (a ++ s) v z.0 in
    (z.0, (λ e. omega (arith, z.1, h.short, ap length e)), (c, p, t, v ++ z.0, inl (s, rw l at h.spelled, o)))

-- one that ends in a header too
pub der_header_lacks : {i : List ℕ} {n : ℕ} → HeaderLacks i n → DerLacks i n
der_header_lacks (in_identifier c p t r e) = der_in_identifier c p t r e
der_header_lacks (in_length c p t b bs h h1 hb e) = der_in_length c p t b bs h h1 hb e

pub der_header_cut : (i : List ℕ) (n : ℕ) → DerHeaderLacks i n → IsCut i × DerLacks i n
der_header_cut i n h = ((header_cut h.1).0, der_header_lacks h.1)

-- A content of which too little is there lacks its whole length where its class is Universal, and what is missing otherwise.
pub der_content_cut : (i rest : List ℕ) (c : Class) (p : Bool) (t m : ℕ) → BeginsWithDerHeader i c p t m rest → length rest < m
    → IsCut i × ((c ≡ Universal → DerLacks i m) × (c ≢ Universal → (n : ℕ) → length rest + n ≡ m → DerLacks i n))
der_content_cut i rest c p t m h l =
    let s = shortest_length m in
    let k = (shortest_spells m h.length).1 in
    let e = h.octets in
    let cut = ends_in_content i c p t m s rest (record { octets = e ∙ append_assoc (identifier c p t) s rest; spelled = k; short = l }) in
    let universal : c ≡ Universal → DerLacks i m = λ u. der_in_universal p t s rest l k (e ∙ ap (λ q. identifier q p t ++ s ++ rest) u) in
    let other : c ≢ Universal → (n : ℕ) → length rest + n ≡ m → DerLacks i n = λ u n y. der_in_content c p t s rest u (omega (arith, y, l)) (subst (λ q. SpellsAnyLength s q) (sym y) k) e in
    (cut, (universal, other))
