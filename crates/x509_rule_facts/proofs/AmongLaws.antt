-- Walks over the fields that octets begin with, one after another.
use Rattle.std.proofs.Common.{◌≡◌, ℕ, true, false, IsTrue, List, refl, sym, subst, ◌≢◌}
use Rattle.std.specs.Prelude.{◌↔◌}
use Rattle.std.proofs.lemmas.Bool.{false≢true}
use Rattle.der_cursor.specs.Formats.{Field}
use Rattle.der_extensions.specs.Lists.{BeginsWith, BeginsWithNone}
use Rattle.x509_rule_facts.specs.Lists.{Among, here, later}

-- a fact is one of what is left, too
pub record IsStill {V : Type 0} (F : Field V) (P : V → Type 0) (i left : List ℕ) : Type 0 where
  pub on : Among F P i → Among F P left
  pub back : Among F P left → Among F P i

pub still_start : {V : Type 0} {F : Field V} {P : V → Type 0} {i left : List ℕ} → left ≡ i → IsStill F P i left
still_start {F = F} {P = P} e = record { on = λ s. subst (Among F P) (sym e) s; back = λ s. subst (Among F P) e s }

module _ {V : Type 0} (F : Field V) {P : V → Type 0} {v : V} {left rest : List ℕ} (b : BeginsWith F left v rest) where
  -- it is where octets begin, or further on
  pub further : ¬ P v → Among F P left → Among F P rest
  further n (here w s p) = absurd (n (subst P (sym (b.only w _ s).0) p))
  further n (later w s p) = subst (Among F P) (sym (b.only w _ s).1) p

  pub still_on : {i : List ℕ} → IsStill F P i left → ¬ P v → IsStill F P i rest
  still_on t n = record { on = λ s. further n (t.on s); back = λ s. t.back (later v b.found s) }

  pub found_here : {i : List ℕ} → IsStill F P i left → P v → IsTrue true ↔ Among F P i
  found_here t p = (λ h. t.back (here v b.found p), λ h. refl)

pub nowhere : {V : Type 0} {F : Field V} {P : V → Type 0} {left : List ℕ} → BeginsWithNone F left → Among F P left → ⊥
nowhere n (here w s p) = n w _ s
nowhere n (later w s p) = n w _ s

pub not_found : {V : Type 0} {F : Field V} {P : V → Type 0} {i left : List ℕ} → IsStill F P i left → BeginsWithNone F left → IsTrue false ↔ Among F P i
not_found t n = (λ h. absurd (false≢true h), λ s. absurd (nowhere n (t.on s)))

-- other words for an item
pub among_more : {V : Type 0} {F : Field V} {P Q : V → Type 0} {i : List ℕ} → ((v : V) → P v → Q v) → Among F P i → Among F Q i
among_more g (here v s p) = here v s (g v p)
among_more g (later v s a) = later v s (among_more g a)
