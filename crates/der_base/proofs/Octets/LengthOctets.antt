-- Length octets at the front of a list: one reading, one refusal or one number of octets that are lacking, and no two of these.
use Rattle.std.proofs.Common.{◌≡◌, ◌≢◌, ℕ, zero, suc, ◌-◌, ◌^◌, ◌<◌, ◌≤◌, ◌==◌, Bool, true, false, nat_lt}
use Rattle.std.proofs.Common.{if◌then◌else◌, List, [], ◌∷◌, ◌++◌, length, take, drop, refl, sym, ap, ◌∙◌, subst, arith}
use Rattle.std.proofs.Common.{length-append, inl, inr, ⊎_elim, ◌⊎◌}
use Rattle.std.proofs.Math.Seq.{take-append_seam, drop-append_seam}
use Rattle.std.proofs.lemmas.Bool.Decides.{nat_tests}
use Rattle.der_base.specs.declared.header.Length.{Length}
use Rattle.der_base.specs.declared.header.Length.TheVariants.{Definite, Indefinite}
use Rattle.der_base.specs.Octets.{number, SpellsAnyLength, shortest_length}
use Rattle.der_base.specs.Fault.{BerLengthRefuses, DerLengthRefuses}
use Rattle.der_base.specs.LengthOctets.{BeginsWithDerLength, BeginsWithLength, LengthLacks, before_length, in_length}
use Rattle.der_base.specs.declared.error.DerConstraint.TheVariants.{IndefiniteLength, LengthNotMinimal}
use Rattle.der_base.specs.Refusal.{Refusal, invalid_length, construct_expected, der_constraint}
use Rattle.der_base.proofs.Octets.Identifiers.{head_same}
use Rattle.der_base.proofs.Octets.ShortestLengths.{shortest_spells}

-- what the front of a list shows of a length

data Front : Type 0 where
  whole : (w : List ℕ) (n : ℕ) (rest : List ℕ) → Front
  unending : (rest : List ℕ) → Front
  reserved : Front
  lacking : ℕ → Front

long_front : ℕ → List ℕ → Front
long_front b bs =
    if nat_lt (length bs) (b - 128) then lacking (b - 128 - length bs)
    else whole (b ∷ take (b - 128) bs) (number (take (b - 128) bs)) (drop (b - 128) bs)

front : List ℕ → Front
front [] = lacking 1
front (b ∷ bs) =
    if nat_lt b 128 then whole (b ∷ []) b bs
    else (if b == 128 then unending bs else (if b == 255 then reserved else long_front b bs))

front_short : (b : ℕ) (bs : List ℕ) → b < 128 → front (b ∷ bs) ≡ whole (b ∷ []) b bs
unfolding front
front_short b bs h = grind (arith, nat_tests)

front_long : (b : ℕ) (bs : List ℕ) → 128 < b → b < 255 → front (b ∷ bs) ≡ long_front b bs
unfolding front
front_long b bs h l = grind (arith, nat_tests)

front_cut : (b : ℕ) (bs : List ℕ) → length bs < b - 128 → long_front b bs ≡ lacking (b - 128 - length bs)
unfolding long_front
front_cut b bs h = grind (arith, nat_tests)

front_uncut : (b : ℕ) (bs : List ℕ) → b - 128 ≤ length bs → long_front b bs ≡ whole (b ∷ take (b - 128) bs) (number (take (b - 128) bs)) (drop (b - 128) bs)
unfolding long_front
front_uncut b bs h = grind (arith, nat_tests)

front_unending : (s rest : List ℕ) → s ≡ 128 ∷ rest → front s ≡ unending rest
unfolding front
front_unending s rest e = ap front e

front_reserved : (s rest : List ℕ) → s ≡ 255 ∷ rest → front s ≡ reserved
unfolding front
front_reserved s rest e = ap front e

front_none : (s : List ℕ) → s ≡ [] → front s ≡ lacking 1
unfolding front
front_none s e = ap front e

front_spells : (w : List ℕ) (n : ℕ) (rest : List ℕ) → SpellsAnyLength w n → front (w ++ rest) ≡ whole w n rest
front_spells [] n rest h = absurd h
front_spells (b ∷ bs) n rest (inl (h, e, m)) =
    front_short b (bs ++ rest) h ∙ ap (λ l. whole (b ∷ []) b (l ++ rest)) e ∙ ap (λ l. whole (b ∷ l) b rest) (sym e) ∙ ap (λ k. whole (b ∷ bs) k rest) (sym m)
front_spells (b ∷ bs) n rest (inr (h, c, p, m)) =
    let k : b - 128 ≡ length bs = omega arith in
    let t : take (b - 128) (bs ++ rest) ≡ bs = ap (λ i. take i (bs ++ rest)) k ∙ take-append_seam bs rest in
    let d : drop (b - 128) (bs ++ rest) ≡ rest = ap (λ i. drop i (bs ++ rest)) k ∙ drop-append_seam bs rest in
    front_long b (bs ++ rest) (omega arith) h ∙ front_uncut b (bs ++ rest) (omega (arith, length-append bs rest))
    ∙ ap (λ v. whole (b ∷ v) (number v) (drop (b - 128) (bs ++ rest))) t ∙ ap (λ v. whole (b ∷ bs) (number bs) v) d ∙ ap (λ i. whole (b ∷ bs) i rest) (sym m)

front_lacking : (s : List ℕ) (n : ℕ) → LengthLacks s n → front s ≡ lacking n
front_lacking s n (before_length e m) = front_none s e ∙ ap lacking (sym m)
front_lacking s n (in_length b bs h p c e) =
    ap front e ∙ front_long b bs (omega arith) h ∙ front_cut b bs (omega arith) ∙ ap lacking (omega arith)

spells_front : (s w : List ℕ) (n : ℕ) (rest : List ℕ) → s ≡ w ++ rest → SpellsAnyLength w n → front s ≡ whole w n rest
spells_front s w n rest e h = ap front e ∙ front_spells w n rest h

-- one number of octets is lacking
pub lacks_same : (s : List ℕ) (n n' : ℕ) → LengthLacks s n → LengthLacks s n' → n ≡ n'
lacks_same s n n' h h' = let e = sym (front_lacking s n h) ∙ front_lacking s n' h' in cc

-- by DER

der_front : (s : List ℕ) (n : ℕ) (rest : List ℕ) → BeginsWithDerLength s n rest → front s ≡ whole (shortest_length n) n rest
der_front s n rest h = spells_front s (shortest_length n) n rest h.octets (shortest_spells n h.length).1

-- the refusal that a front shows
abbrev DerFrontRefuses : Front → Refusal → Type 0
DerFrontRefuses (whole w n rest) e = ((2 ^ 64 ≤ n) × (e ≡ invalid_length)) ⊎ ((n < 2 ^ 64) × (w ≢ shortest_length n) × (e ≡ der_constraint LengthNotMinimal))
DerFrontRefuses (unending rest) e = e ≡ der_constraint IndefiniteLength
DerFrontRefuses reserved e = e ≡ invalid_length
DerFrontRefuses (lacking n) e = ⊥

der_refused_front : (s : List ℕ) (e : Refusal) → DerLengthRefuses s e → DerFrontRefuses (front s) e
der_refused_front s e (inl ((r, d), x)) = subst (λ f. DerFrontRefuses f e) (sym (front_reserved s r d)) x
der_refused_front s e (inr (inl ((b, bs, r, d, h, l, c, m), x))) =
    subst (λ f. DerFrontRefuses f e) (sym (spells_front s (b ∷ bs) (number bs) r d (inr (l, c, omega arith, refl)))) (inl (m, x))
der_refused_front s e (inr (inr (inl ((r, d), x)))) = subst (λ f. DerFrontRefuses f e) (sym (front_unending s r d)) x
der_refused_front s e (inr (inr (inr ((l, r, n, d, h, z), x)))) =
    subst (λ f. DerFrontRefuses f e) (sym (spells_front s l n r d h.1)) (inr (h.0, z, x))

der_front_one : (f : Front) (e e' : Refusal) → DerFrontRefuses f e → DerFrontRefuses f e' → e ≡ e'
der_front_one (whole w n rest) e e' (inl h) (inl h') = h.1 ∙ sym h'.1
der_front_one (whole w n rest) e e' (inl h) (inr h') = absurd (omega (arith, h.0, h'.0))
der_front_one (whole w n rest) e e' (inr h) (inl h') = absurd (omega (arith, h.0, h'.0))
der_front_one (whole w n rest) e e' (inr h) (inr h') = h.2 ∙ sym h'.2
der_front_one (unending rest) e e' h h' = h ∙ sym h'
der_front_one reserved e e' h h' = h ∙ sym h'
der_front_one (lacking n) e e' h h' = absurd h

-- one length stands at the front
pub der_length_same : (s : List ℕ) (n n' : ℕ) (rest rest' : List ℕ) → BeginsWithDerLength s n rest → BeginsWithDerLength s n' rest' → (n ≡ n') × (rest ≡ rest')
der_length_same s n n' rest rest' h h' = let e = sym (der_front s n rest h) ∙ der_front s n' rest' h' in (cc, cc)

-- a length that is read is not refused
pub der_length_not_refused : (s : List ℕ) (n : ℕ) (rest : List ℕ) (e : Refusal) → BeginsWithDerLength s n rest → DerLengthRefuses s e → ⊥
der_length_not_refused s n rest e h g =
    ⊎_elim (λ a. omega (arith, a.0, h.length)) (λ a. a.1 refl) (subst (λ f. DerFrontRefuses f e) (der_front s n rest h) (der_refused_front s e g))

-- nor does it lack octets
pub der_length_not_lacking : (s : List ℕ) (n : ℕ) (rest : List ℕ) (m : ℕ) → BeginsWithDerLength s n rest → LengthLacks s m → ⊥
der_length_not_lacking s n rest m h g = let e = sym (der_front s n rest h) ∙ front_lacking s m g in cc

-- what is refused lacks none
pub der_refused_not_lacking : (s : List ℕ) (e : Refusal) (m : ℕ) → DerLengthRefuses s e → LengthLacks s m → ⊥
der_refused_not_lacking s e m g h = subst (λ f. DerFrontRefuses f e) (front_lacking s m h) (der_refused_front s e g)

-- and has one refusal
pub der_refusal_same : (s : List ℕ) (e e' : Refusal) → DerLengthRefuses s e → DerLengthRefuses s e' → e ≡ e'
der_refusal_same s e e' g g' = der_front_one (front s) e e' (der_refused_front s e g) (der_refused_front s e' g')

-- by BER

-- the length that a front shows
abbrev FrontReads : Bool → Front → Length → List ℕ → Type 0
FrontReads p (whole w n rest) l r = (n < 2 ^ 64) × (l ≡ Definite n) × (r ≡ rest)
FrontReads p (unending rest) l r = (p ≡ true) × (l ≡ Indefinite) × (r ≡ rest)
FrontReads p reserved l r = ⊥
FrontReads p (lacking n) l r = ⊥

ber_front : (s : List ℕ) (p : Bool) (l : Length) (rest : List ℕ) → BeginsWithLength s p l rest → FrontReads p (front s) l rest
ber_front s p (Definite n) rest (w, h, e) = subst (λ f. FrontReads p f (Definite n) rest) (sym (spells_front s w n rest e h.1)) (h.0, refl, refl)
ber_front s p Indefinite rest (h, e) = subst (λ f. FrontReads p f Indefinite rest) (sym (front_unending s rest e)) (h, refl, refl)

-- and the refusal
abbrev BerFrontRefuses : Bool → Front → Refusal → Type 0
BerFrontRefuses p (whole w n rest) e = (2 ^ 64 ≤ n) × (e ≡ invalid_length)
BerFrontRefuses p (unending rest) e = (p ≡ false) × (e ≡ construct_expected)
BerFrontRefuses p reserved e = e ≡ invalid_length
BerFrontRefuses p (lacking n) e = ⊥

ber_refused_front : (s : List ℕ) (p : Bool) (e : Refusal) → BerLengthRefuses p s e → BerFrontRefuses p (front s) e
ber_refused_front s p e (inl ((r, d), x)) = subst (λ f. BerFrontRefuses p f e) (sym (front_reserved s r d)) x
ber_refused_front s p e (inr (inl ((b, bs, r, d, h, l, c, m), x))) =
    subst (λ f. BerFrontRefuses p f e) (sym (spells_front s (b ∷ bs) (number bs) r d (inr (l, c, omega arith, refl)))) (m, x)
ber_refused_front s p e (inr (inr ((r, d), y, x))) = subst (λ f. BerFrontRefuses p f e) (sym (front_unending s r d)) (y, x)

front_one : (p : Bool) (f : Front) (l l' : Length) (r r' : List ℕ) → FrontReads p f l r → FrontReads p f l' r' → (l ≡ l') × (r ≡ r')
front_one p (whole w n rest) l l' r r' h h' = (h.1 ∙ sym h'.1, h.2 ∙ sym h'.2)
front_one p (unending rest) l l' r r' h h' = (h.1 ∙ sym h'.1, h.2 ∙ sym h'.2)
front_one p reserved l l' r r' h h' = absurd h
front_one p (lacking n) l l' r r' h h' = absurd h

front_not_refused : (p : Bool) (f : Front) (l : Length) (r : List ℕ) (e : Refusal) → FrontReads p f l r → BerFrontRefuses p f e → ⊥
front_not_refused p (whole w n rest) l r e h g = omega (arith, h.0, g.0)
front_not_refused p (unending rest) l r e h g = let z = sym h.0 ∙ g.0 in cc
front_not_refused p reserved l r e h g = h
front_not_refused p (lacking n) l r e h g = h

ber_front_one : (p : Bool) (f : Front) (e e' : Refusal) → BerFrontRefuses p f e → BerFrontRefuses p f e' → e ≡ e'
ber_front_one p (whole w n rest) e e' h h' = h.1 ∙ sym h'.1
ber_front_one p (unending rest) e e' h h' = h.1 ∙ sym h'.1
ber_front_one p reserved e e' h h' = h ∙ sym h'
ber_front_one p (lacking n) e e' h h' = absurd h

-- one length stands at the front
pub ber_length_same : (s : List ℕ) (p : Bool) (l l' : Length) (rest rest' : List ℕ) → BeginsWithLength s p l rest → BeginsWithLength s p l' rest' → (l ≡ l') × (rest ≡ rest')
ber_length_same s p l l' rest rest' h h' = front_one p (front s) l l' rest rest' (ber_front s p l rest h) (ber_front s p l' rest' h')

-- a length that is read is not refused
pub ber_length_not_refused : (s : List ℕ) (p : Bool) (l : Length) (rest : List ℕ) (e : Refusal) → BeginsWithLength s p l rest → BerLengthRefuses p s e → ⊥
ber_length_not_refused s p l rest e h g = front_not_refused p (front s) l rest e (ber_front s p l rest h) (ber_refused_front s p e g)

-- nor does it lack octets
pub ber_length_not_lacking : (s : List ℕ) (p : Bool) (l : Length) (rest : List ℕ) (m : ℕ) → BeginsWithLength s p l rest → LengthLacks s m → ⊥
ber_length_not_lacking s p l rest m h g = subst (λ f. FrontReads p f l rest) (front_lacking s m g) (ber_front s p l rest h)

-- what is refused lacks none
pub ber_refused_not_lacking : (s : List ℕ) (p : Bool) (e : Refusal) (m : ℕ) → BerLengthRefuses p s e → LengthLacks s m → ⊥
ber_refused_not_lacking s p e m g h = subst (λ f. BerFrontRefuses p f e) (front_lacking s m h) (ber_refused_front s p e g)

-- and has one refusal
pub ber_refusal_same : (s : List ℕ) (p : Bool) (e e' : Refusal) → BerLengthRefuses p s e → BerLengthRefuses p s e' → e ≡ e'
ber_refusal_same s p e e' g g' = ber_front_one p (front s) e e' (ber_refused_front s p e g) (ber_refused_front s p e' g')

-- lacking octets

-- octets of a length of any size, definite or not
abbrev pub AreLengthOctets : List ℕ → Type 0
AreLengthOctets w = ((n : ℕ) × SpellsAnyLength w n) ⊎ (w ≡ 128 ∷ [])

-- so many octets
pub zeros : (n : ℕ) → (r : List ℕ) × (length r ≡ n)
zeros zero = ([], refl)
zeros (suc n) = let z = zeros n in (0 ∷ z.0, omega (arith, z.1))

-- as many more make a length
pub lacks_then_length : (s : List ℕ) (n : ℕ) → LengthLacks s n → (r : List ℕ) × (length r ≡ n) × AreLengthOctets (s ++ r)
lacks_then_length s n (before_length e m) = (0 ∷ [], sym m, inl (0, subst (λ l. SpellsAnyLength (l ++ 0 ∷ []) 0) (sym e) (inl (omega arith, refl, refl))))
lacks_then_length s n (in_length b bs h p c e) =
    let z = zeros n in (
      z.0,
      z.1,
      inl (
        number (bs ++ z.0),
        subst (λ l. SpellsAnyLength (l ++ z.0) (number (bs ++ z.0))) (sym e)
            (inr (h, omega (arith, z.1, length-append bs z.0), omega (arith, z.1, length-append bs z.0), refl)),
      ),
    )

pub no_more : (xs ys : List ℕ) → xs ++ ys ≡ [] → ys ≡ []
no_more [] ys e = e
no_more (x ∷ xs) ys e = cc

some_more : (xs : List ℕ) → xs ≢ [] → 1 ≤ length xs
some_more [] z = absurd (z refl)
some_more (x ∷ xs) z = omega arith

-- a proper front of a length lacks octets
pub length_front_lacks : (s r : List ℕ) → r ≢ [] → AreLengthOctets (s ++ r) → (n : ℕ) × LengthLacks s n
length_front_lacks [] r z h = (1, before_length refl refl)
length_front_lacks (b ∷ bs) r z (inl (n, inl (l, e, m))) = absurd (z (no_more bs r e))
length_front_lacks (b ∷ bs) r z (inl (n, inr (l, c, p, m))) =
    (length r, in_length b bs l (some_more r z) (omega (arith, c, length-append bs r)) refl)
length_front_lacks (b ∷ bs) r z (inr e) = absurd (z (no_more bs r (head_same e).1))
