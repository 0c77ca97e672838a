-- Walks over the fields that octets begin with, where a fact is to hold of two.
use Rattle.std.proofs.Common.{◌≡◌, ℕ, Bool, true, false, IsTrue, List, refl, sym, subst}
use Rattle.std.specs.Prelude.{◌↔◌}
use Rattle.std.proofs.lemmas.Bool.{false≢true}
use Rattle.der_cursor.specs.Formats.{Field}
use Rattle.der_extensions.specs.Lists.{BeginsWith, BeginsWithNone}
use Rattle.x509_rule_facts.specs.Lists.{Among, Twice, here, later, first, beyond}
use Rattle.x509_rule_facts.proofs.AmongLaws.{further, nowhere}

-- where one was found, one is left to be found, else two
abbrev pub IsLeft : {V : Type 0} (F : Field V) (P : V → Type 0) → Bool → List ℕ → Type 0
IsLeft F P true left = Among F P left
IsLeft F P false left = Twice F P left

-- two facts are of the whole where those are of what is left
pub record IsStill {V : Type 0} (F : Field V) (P : V → Type 0) (i : List ℕ) (is_second : Bool) (left : List ℕ) : Type 0 where
  pub on : Twice F P i → IsLeft F P is_second left
  pub back : IsLeft F P is_second left → Twice F P i

pub still_start : {V : Type 0} {F : Field V} {P : V → Type 0} {i left : List ℕ} → left ≡ i → IsStill F P i false left
still_start {F = F} {P = P} e = record { on = λ s. subst (Twice F P) (sym e) s; back = λ s. subst (Twice F P) e s }

one_of_two : {V : Type 0} {F : Field V} {P : V → Type 0} {i : List ℕ} → Twice F P i → Among F P i
one_of_two (first w s p a) = here w s p
one_of_two (beyond w s t) = later w s (one_of_two t)

module _ {V : Type 0} (F : Field V) (P : V → Type 0) {v : V} {left rest : List ℕ} (b : BeginsWith F left v rest) where
  beyond_one : ¬ P v → Twice F P left → Twice F P rest
  beyond_one n (first w s p a) = absurd (n (subst P (sym (b.only w _ s).0) p))
  beyond_one n (beyond w s t) = subst (Twice F P) (sym (b.only w _ s).1) t

  after_one : Twice F P left → Among F P rest
  after_one (first w s p a) = subst (Among F P) (sym (b.only w _ s).1) a
  after_one (beyond w s t) = one_of_two (subst (Twice F P) (sym (b.only w _ s).1) t)

  -- it is none of the two
  passed : (is_second : Bool) → ¬ P v → IsLeft F P is_second left → IsLeft F P is_second rest
  passed true n a = further F b n a
  passed false n t = beyond_one n t

  put_back : (is_second : Bool) → IsLeft F P is_second rest → IsLeft F P is_second left
  put_back true a = later v b.found a
  put_back false t = beyond v b.found t

  pub still_on : {i : List ℕ} {is_second : Bool} → IsStill F P i is_second left → ¬ P v → IsStill F P i is_second rest
  still_on {is_second = is_second} t n = record { on = λ s. passed is_second n (t.on s); back = λ s. t.back (put_back is_second s) }

  -- it is the first, or the second
  pub one_found : {i : List ℕ} {is_second : Bool} → is_second ≡ false → IsStill F P i is_second left → P v → IsStill F P i true rest
  one_found {is_second = true} e t p = absurd (false≢true (sym e))
  one_found {is_second = false} e t p = record { on = λ s. after_one (t.on s); back = λ a. t.back (first v b.found p a) }

  pub two_found : {i : List ℕ} {is_second : Bool} → is_second ≡ true → IsStill F P i is_second left → P v → IsTrue true ↔ Twice F P i
  two_found {is_second = false} e t p = absurd (false≢true e)
  two_found {is_second = true} e t p = (λ h. t.back (here v b.found p), λ h. refl)

none_left : {V : Type 0} (F : Field V) (P : V → Type 0) {left : List ℕ} → BeginsWithNone F left → (is_second : Bool) → IsLeft F P is_second left → ⊥
none_left F P n true a = nowhere n a
none_left F P n false t = nowhere n (one_of_two t)

pub not_found : {V : Type 0} (F : Field V) (P : V → Type 0) {i left : List ℕ} {is_second : Bool} → IsStill F P i is_second left → BeginsWithNone F left → IsTrue false ↔ Twice F P i
not_found F P {is_second = is_second} t n = (λ h. absurd (false≢true h), λ s. absurd (none_left F P n is_second (t.on s)))
