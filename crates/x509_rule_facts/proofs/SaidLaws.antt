-- What was read of a value is all that it says.
use Rattle.std.proofs.Common.{◌≡◌, Bool, true, false, IsTrue, Ok, Err, refl, sym, subst, ◌∙◌}
use Rattle.std.specs.Prelude.{◌↔◌, not, Result}
use Rattle.std.specs.Result.{is_ok}
use Rattle.std.proofs.lemmas.Bool.{false≢true}
use Rattle.der_cursor.specs.Formats.{Never, ReadsWhole}

module _ {T V E : Type 0} {IsSo : V → Type 0} {view : T → V} {P : V → Type 0} where
  -- the value that was read is so, or it isn't
  pub said : {x : T} {b : Bool} → ReadsWhole {E = E} IsSo view Never (Ok x) → IsTrue b ↔ P (view x) → IsTrue b ↔ ((v : V) × IsSo v × P v)
  said {x = x} r t = (λ h. (view x, r.found, t.0 h), λ s. t.1 (subst P (sym (r.only s.0 s.1)) s.2))

  -- none was read
  pub not_said : {e : E} → ReadsWhole {E = E} IsSo view Never (Err e) → IsTrue false ↔ ((v : V) × IsSo v × P v)
  not_said r = (λ h. absurd (false≢true h), λ s. absurd (r.only s.0 s.1))

module _ {T V E : Type 0} {IsSo : V → Type 0} {view : T → V} where
  -- there is a value
  pub readable : {x : T} → ReadsWhole {E = E} IsSo view Never (Ok x) → IsTrue true ↔ ((v : V) × IsSo v)
  readable {x = x} r = (λ h. (view x, r.found), λ s. refl)

  pub not_readable : {e : E} → ReadsWhole {E = E} IsSo view Never (Err e) → IsTrue false ↔ ((v : V) × IsSo v)
  not_readable r = (λ h. absurd (false≢true h), λ s. absurd (r.only s.0 s.1))

  -- whether there is one is whether it was read
  pub is_readable : (r : Result T E) {b : Bool} → ReadsWhole {E = E} IsSo view Never r → b ≡ is_ok r → IsTrue b ↔ ((v : V) × IsSo v)
  is_readable (Ok x) r e = subst (λ b. IsTrue b ↔ ((v : V) × IsSo v)) (sym e) (readable r)
  is_readable (Err x) r e = subst (λ b. IsTrue b ↔ ((v : V) × IsSo v)) (sym e) (not_readable r)

-- a test that returns a bit
pub by_value : {a b : Bool} → a ≡ b → IsTrue a ↔ (b ≡ true)
by_value e = (λ h. sym e ∙ h, λ h. e ∙ h)

-- and one that is turned
pub negated : {P : Type 0} {a : Bool} → IsTrue a ↔ P → IsTrue (not a) ↔ (¬ P)
negated {a = true} t = (λ h. absurd (false≢true h), λ n. absurd (n (t.0 refl)))
negated {a = false} t = (λ h p. false≢true (t.1 p), λ n. refl)

pub itself : {P : Type 0} → P ↔ P
itself = (λ h. h, λ h. h)
