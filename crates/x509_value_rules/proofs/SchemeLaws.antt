-- Schemes of identifiers of resources, character after character.
use Rattle.std.proofs.Common.{◌≡◌, ◌≢◌, ℕ, Bool, true, false, IsTrue, List, [], ◌∷◌, ◌++◌, refl, sym, ap, subst, ◌∙◌}
use Rattle.std.specs.Prelude.{◌↔◌}
use Rattle.std.specs.Char.{is_ascii_alphabetic}
use Rattle.std.proofs.lemmas.Bool.{false≢true}
use Rattle.x509_value_rules.specs.Names.{HasScheme, SchemeFollows, is_scheme_character}

-- where the texts say the same
pub record Follows (left all : List ℕ) : Type 0 where
  pub back : SchemeFollows left → SchemeFollows all
  pub only : SchemeFollows all → SchemeFollows left

pub follows_start : {i left : List ℕ} → left ≡ i → Follows left i
follows_start e = record { back = subst SchemeFollows e; only = subst SchemeFollows (sym e) }

begun : (b : ℕ) (s : List ℕ) → HasScheme (b ∷ s) → IsTrue (is_ascii_alphabetic b) × SchemeFollows s
begun b s (first, rest, e, a, f) =
    let q : b ≡ first = cc in
    let t : s ≡ rest = cc in
    (subst (λ z. is_ascii_alphabetic z ≡ true) (sym q) a, subst SchemeFollows (sym t) f)

nothing_begun : HasScheme [] → ⊥
nothing_begun (first, rest, e, a, f) = let q : ⊥ = cc in q

no_octets : SchemeFollows [] → ⊥
no_octets ([], behind, e, a, n) = let q : ⊥ = cc in q
no_octets (b ∷ s, behind, e, a, n) = let q : ⊥ = cc in q

-- an octet that is a character of a scheme isn't the ":" behind it
is_character : {b : ℕ} → true ≡ is_scheme_character b → b ≢ 58
is_character e q = false≢true (sym (e ∙ ap is_scheme_character q))

without_character : (b : ℕ) (s : List ℕ) → true ≡ is_scheme_character b → SchemeFollows (b ∷ s) → SchemeFollows s
without_character b s t ([], behind, e, a, m) = let q : b ≡ 58 = cc in absurd (is_character t q)
without_character b s t (x ∷ scheme, behind, e, a, m) = let q : s ≡ scheme ++ 58 ∷ behind = cc in (scheme, behind, q, a.1, m)

with_character : (b : ℕ) (s : List ℕ) → true ≡ is_scheme_character b → SchemeFollows s → SchemeFollows (b ∷ s)
with_character b s t (scheme, behind, e, a, n) = (b ∷ scheme, behind, ap (λ z. b ∷ z) e, (sym t, a), n)

-- an octet that is none ends the scheme
ended : (b : ℕ) (s : List ℕ) → false ≡ is_scheme_character b → SchemeFollows (b ∷ s) → (b ≡ 58) × (s ≢ [])
ended b s t ([], behind, e, a, m) =
    let q : b ≡ 58 = cc in
    let p : s ≡ behind = cc in
    (q, λ z. m (sym p ∙ z))
ended b s t (x ∷ scheme, behind, e, a, m) =
    let q : b ≡ x = cc in absurd (false≢true (t ∙ ap is_scheme_character q ∙ a.0))

module _ {left all : List ℕ} (f : Follows left all) where
  pub at_end : left ≡ [] → IsTrue false ↔ SchemeFollows all
  at_end e = (λ h. absurd (false≢true h), λ h. absurd (no_octets (subst SchemeFollows e (f.only h))))

  pub at_other : {b : ℕ} {s : List ℕ} {r : Bool} → left ≡ b ∷ s → false ≡ is_scheme_character b → IsTrue r ↔ ((b ≡ 58) × (s ≢ [])) → IsTrue r ↔ SchemeFollows all
  at_other {b = b} {s = s} e n t = (
    λ h. let q = t.0 h in f.back (subst SchemeFollows (sym (e ∙ ap (λ z. z ∷ s) q.0)) ([], s, refl, tt, q.1)),
    λ h. t.1 (ended b s n (subst SchemeFollows e (f.only h))),
  )

  pub past_character : {b : ℕ} {s : List ℕ} → left ≡ b ∷ s → true ≡ is_scheme_character b → Follows s all
  past_character {b = b} {s = s} e t = record {
    back = λ h. f.back (subst SchemeFollows (sym e) (with_character b s t h));
    only = λ h. without_character b s t (subst SchemeFollows e (f.only h));
  }

-- the first octet
pub scheme_begins : {i s : List ℕ} {b : ℕ} {r : Bool} → i ≡ b ∷ s → IsTrue r ↔ (IsTrue (is_ascii_alphabetic b) × SchemeFollows s) → IsTrue r ↔ HasScheme i
scheme_begins {i = i} {s = s} {b = b} e t = (
  λ h. let q = t.0 h in (b, s, e, q.0, q.1),
  λ h. t.1 (begun b s (subst HasScheme e h)),
)

pub no_scheme : {i : List ℕ} → i ≡ [] → IsTrue false ↔ HasScheme i
no_scheme e = (λ h. absurd (false≢true h), λ h. absurd (nothing_begun (subst HasScheme e h)))
