-- An input fits a type in one way.
use Rattle.std.proofs.Common.{◌≡◌, ◌⊎◌, ℕ, true, false, List, [], ◌∷◌, ◌++◌, ap, refl, subst, sym, ◌∙◌, inl, inr}
use Rattle.der_base.specs.declared.rules.Rules.{Rules}
use Rattle.text_json.specs.declared.fields.named.Named.TheVariants.{Whole, Lacks, Left, Refused}
use Rattle.text_json.specs.Fields.Fields.{AreInType, FitsInOneWay, LeavesAt}
use Rattle.der_schema.specs.Encodings.{all_seen}
use Rattle.der_schema.specs.Ends.{is_whole_after}
use Rattle.der_schema.specs.Known.{all_extras}
use Rattle.der_schema.specs.Meaning.{Root}
use Rattle.der_elements.specs.Visits.{Visited, Visits}
use Rattle.der_elements.proofs.OneVisit.{visits_same}

-- Of two elements of a list one is before the other, or they are one.
record IsBefore (b : List Visited) (e : Visited) (c : List Visited) : Type 0 where
  between : List Visited
  parts : c ≡ b ++ e ∷ between

one_behind : (x y : Visited) (b : List Visited) (e : Visited) (c : List Visited) → x ≡ y → IsBefore b e c
    → IsBefore (x ∷ b) e (y ∷ c)
one_behind x y b e c same h = record {
  between = h.between;
  parts = subst (λ z. z ∷ c ≡ x ∷ (b ++ e ∷ h.between)) same (ap (λ l. x ∷ l) h.parts);
}

in_order : (b a c d : List Visited) (e f : Visited) → b ++ e ∷ a ≡ c ++ f ∷ d
    → (e ≡ f) ⊎ (IsBefore b e c ⊎ IsBefore c f b)
in_order [] a [] d e f h = inl (cc)
in_order [] a (y ∷ c) d e f h = let same : e ≡ y = cc in
    inr (inl (record { between = c; parts = ap (λ z. z ∷ c) (sym same) }))
in_order (x ∷ b) a [] d e f h = let same : x ≡ f = cc in
    inr (inr (record { between = b; parts = ap (λ z. z ∷ b) same }))
in_order (x ∷ b) a (y ∷ c) d e f h =
    let same : x ≡ y = cc in
    let rest : b ++ e ∷ a ≡ c ++ f ∷ d = cc in
    elim (in_order b a c d e f rest) [
      | inl one ↦ inl one
      | inr other ↦ inr (elim other [
        | inl first ↦ inl (one_behind x y b e c same first)
        | inr first ↦ inr (one_behind y x c f b (sym same) first)
      ])
    ]

not_both : (sc : Root) (i : List ℕ) (vs : List Visited) (p : ℕ) → AreInType sc i vs → LeavesAt sc i vs p → ⊥
not_both sc i vs p h l = let in_type = h l.before l.after l.element l.parts in let out = l.not_in_type in absurd (cc)

-- the first element that isn't in the type isn't before one that is the first
not_before : (sc : Root) (i : List ℕ) (vs : List Visited) (p q : ℕ) (l : LeavesAt sc i vs p) (m : LeavesAt sc i vs q)
    → IsBefore l.before l.element m.before → ⊥
not_before sc i vs p q l m h =
    let in_type = m.in_type l.before h.between l.element h.parts in
    let out = l.not_in_type in
    absurd (cc)

one_offset : (sc : Root) (i : List ℕ) (vs : List Visited) (p q : ℕ) → LeavesAt sc i vs p → LeavesAt sc i vs q → p ≡ q
one_offset sc i vs p q l m =
    let parts : l.before ++ l.element ∷ l.after ≡ m.before ++ m.element ∷ m.after = sym l.parts ∙ m.parts in
    elim (in_order l.before l.after m.before m.after l.element m.element parts) [
      | inl same ↦ l.here ∙ ap (λ (v : Visited). v.offset) same ∙ sym m.here
      | inr other ↦ elim other [
        | inl first ↦ absurd (not_before sc i vs p q l m first)
        | inr first ↦ absurd (not_before sc i vs q p m l first)
      ]
    ]

whole_or_not : (sc : Root) (r : Rules) (i : List ℕ) (vs us : List Visited) → Visits all_extras r 101 0 0 i vs
    → Visits all_extras r 101 0 0 i us → is_whole_after sc (all_seen i vs) ≡ true
    → is_whole_after sc (all_seen i us) ≡ false → ⊥
whole_or_not sc r i vs us v u whole not_whole =
    let same = ap (λ (ws : List Visited). is_whole_after sc (all_seen i ws)) (visits_same v u refl) in
    absurd (cc)

in_or_out : (sc : Root) (r : Rules) (i : List ℕ) (vs us : List Visited) (p : ℕ) → Visits all_extras r 101 0 0 i vs
    → Visits all_extras r 101 0 0 i us → AreInType sc i vs → LeavesAt sc i us p → ⊥
in_or_out sc r i vs us p v u h l =
    not_both sc i us p (subst (λ (ws : List Visited). AreInType sc i ws) (visits_same v u refl) h) l

pub fits_in_one_way : FitsInOneWay
fits_in_one_way sc r i vs us Whole Whole h g = refl
fits_in_one_way sc r i vs us Whole Lacks h g = absurd (whole_or_not sc r i vs us h.0 g.0 h.2 g.2)
fits_in_one_way sc r i vs us Whole (Left p) h g = absurd (in_or_out sc r i vs us p h.0 g.0 h.1 g.1)
fits_in_one_way sc r i vs us Whole (Refused e) h g = absurd (g.0.never vs h.0)
fits_in_one_way sc r i vs us Lacks Whole h g = absurd (whole_or_not sc r i us vs g.0 h.0 g.2 h.2)
fits_in_one_way sc r i vs us Lacks Lacks h g = refl
fits_in_one_way sc r i vs us Lacks (Left p) h g = absurd (in_or_out sc r i vs us p h.0 g.0 h.1 g.1)
fits_in_one_way sc r i vs us Lacks (Refused e) h g = absurd (g.0.never vs h.0)
fits_in_one_way sc r i vs us (Left p) Whole h g = absurd (in_or_out sc r i us vs p g.0 h.0 g.1 h.1)
fits_in_one_way sc r i vs us (Left p) Lacks h g = absurd (in_or_out sc r i us vs p g.0 h.0 g.1 h.1)
fits_in_one_way sc r i vs us (Left p) (Left q) h g =
    ap Left (one_offset sc i us p q
    (subst (λ (ws : List Visited). LeavesAt sc i ws p) (visits_same h.0 g.0 refl) h.1) g.1)
fits_in_one_way sc r i vs us (Left p) (Refused e) h g = absurd (g.0.never vs h.0)
fits_in_one_way sc r i vs us (Refused e) Whole h g = absurd (h.0.never us g.0)
fits_in_one_way sc r i vs us (Refused e) Lacks h g = absurd (h.0.never us g.0)
fits_in_one_way sc r i vs us (Refused e) (Left p) h g = absurd (h.0.never us g.0)
fits_in_one_way sc r i vs us (Refused e) (Refused f) h g = tt
