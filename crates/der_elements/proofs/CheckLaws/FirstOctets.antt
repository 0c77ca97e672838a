-- What the first octet says of identifier octets.
use Rattle.std.proofs.Common.{◌≡◌, ℕ, ◌+◌, ◌/◌, ◌%◌, ◌<◌, Bool, true, false, List, ◌∷◌, ◌++◌, get_or, refl, sym, ap, ◌∙◌}
use Rattle.std.proofs.Common.{arith, ⊎_elim}
use Rattle.std.proofs.lemmas.Bool.{cases_lt}
use Rattle.der_base.specs.declared.header.Class.{Class}
use Rattle.der_base.specs.declared.header.Class.TheVariants.{Universal, Application, ContextSpecific, Private}
use Rattle.der_base.specs.Octets.{identifier, leading_bits, groups}
use Rattle.der_base.proofs.Octets.Identifiers.{identifier_short, identifier_long}

-- the low bits of the first octet, which are 0 where the number is
pub record FirstOctet (c : Class) (p : Bool) (t : ℕ) (i : List ℕ) : Type 0 where
  pub low : ℕ
  pub following : List ℕ
  pub small : low < 32
  pub octets : i ≡ (leading_bits c p + low) ∷ following
  pub zero_low : low ≡ 0 → t ≡ 0

pub first_octet : (i : List ℕ) (c : Class) (p : Bool) (t : ℕ) (rest : List ℕ) → i ≡ identifier c p t ++ rest → FirstOctet c p t i
first_octet i c p t rest e =
    ⊎_elim
    (λ (h : t < 31). record {
      low = t;
      following = rest;
      small = omega arith;
      octets = e ∙ ap (λ l. l ++ rest) (identifier_short c p t h);
      zero_low = λ z. z;
    })
    (λ h. record {
      low = 31;
      following = groups t ++ rest;
      small = omega arith;
      octets = e ∙ ap (λ l. l ++ rest) (identifier_long c p t h);
      zero_low = λ z. absurd (omega (arith, z));
    })
    (cases_lt t 31)

-- the constructed bit
bit_true : (c : Class) (m first : ℕ) → m < 32 → first ≡ leading_bits c true + m → first / 32 % 2 ≡ 1
bit_true Universal m first h e = omega (arith, e)
bit_true Application m first h e = omega (arith, e)
bit_true ContextSpecific m first h e = omega (arith, e)
bit_true Private m first h e = omega (arith, e)

pub first_is : (i : List ℕ) (c : Class) (p : Bool) (t : ℕ) → (f : FirstOctet c p t i) → get_or i 0 0 ≡ leading_bits c p + f.low
first_is i c p t f = ap (λ l. get_or l 0 0) f.octets

-- the class number 0
first_zero : (c : Class) (m : ℕ) → leading_bits c false + m ≡ 0 → (c ≡ Universal) × (m ≡ 0)
first_zero Universal m e = (refl, omega (arith, e))
first_zero Application m e = absurd (omega (arith, e))
first_zero ContextSpecific m e = absurd (omega (arith, e))
first_zero Private m e = absurd (omega (arith, e))

pub zero_first : (i : List ℕ) (c : Class) (t : ℕ) (rest : List ℕ) → get_or i 0 0 ≡ 0 → i ≡ identifier c false t ++ rest → (c ≡ Universal) × (t ≡ 0)
zero_first i c t rest z e =
    let f = first_octet i c false t rest e in
    let n = first_zero c f.low (sym (first_is i c false t f) ∙ z) in
    (n.0, f.zero_low n.1)

-- a constructed one isn't 0
pub constructed_first : (i : List ℕ) (c : Class) (t : ℕ) (rest : List ℕ) → get_or i 0 0 ≡ 0 → i ≡ identifier c true t ++ rest → ⊥
constructed_first i c t rest z e =
    let f = first_octet i c true t rest e in
    absurd (omega (arith, z, bit_true c f.low (get_or i 0 0) f.small (first_is i c true t f)))
