-- What is written as DER writes it.
use Rattle.std.specs.Prelude.{◌≡◌, ℕ, ◌≤◌, Bool, true, false, List, length, take, Result, Ok, IfOk}
use Rattle.der_base.specs.declared.rules.Rules.TheVariants.{Ber, Der}
use Rattle.der_elements.specs.Check.Elements.{AreElements}
use Rattle.der_elements.specs.Check.Overlay.{overlay}
use Rattle.der_elements.specs.declared.cause.Cause.{Cause}
use Rattle.der_elements.specs.declared.cause.Cause.TheVariants.{NotDer, OtherPart, UnusedBitsInside, Value}
use Rattle.der_canon.specs.declared.error.NotCanonical.{NotCanonical}
use Rattle.der_canon.specs.NoDer.{HasForm}
use Rattle.der_canon.specs.Same.{AreInDer}
use Rattle.der_canon.specs.Sizes.{IsSizeOf}

-- DER has a form of all of i, and the octets o are i as DER writes it: what is DER already is written as it is
pub record IsDerOf (i o : List ℕ) : Type 0 where
  pub have : HasForm i
  pub elements : AreElements Der 101 o
  pub unchanged : AreElements Der 101 i → o ≡ i
  pub same : ¬ AreElements Der 101 i → AreInDer 101 i o

-- DER has so many octets for the input, room or not; if the buffer has them, they are the input as DER writes it
abbrev pub WritesDer : {E : Type 0} → List ℕ → List ℕ → Result ℕ E → Type 0
WritesDer i new result = IfOk result (λ n. IsSizeOf i n × (n ≤ length new → IsDerOf i (take n new)))

-- what is DER already is written as it is, as far as there is room
abbrev pub KeepsDer : {E : Type 0} → List ℕ → List ℕ → List ℕ → Result ℕ E → Type 0
KeepsDer i old new result = AreElements Der 101 i → (result ≡ Ok (length i)) × (new ≡ overlay old 0 i)

-- the cause may be that an element of BER has no DER
abbrev pub is_about_der : Cause → Bool
is_about_der OtherPart = true
is_about_der UnusedBitsInside = true
is_about_der NotDer = true
is_about_der (Value e) = true
is_about_der cause = false

-- every other cause is a rule of BER that the input breaks
abbrev pub IsRefusalOf : List ℕ → NotCanonical → Type 0
IsRefusalOf i e = is_about_der e.cause ≡ false → ¬ AreElements Ber 101 i
