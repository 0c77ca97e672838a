-- Worked rows of explicit tags and of containers.
use Rattle.std.proofs.Common.{◌≡◌, ℕ, Bool, true, false, Some, None, List, [], ◌∷◌, Bor, refl, lit<, arith, inl, inr}
use Rattle.der_base.specs.declared.error.Err.TheVariants.{Error}
use Rattle.der_base.specs.declared.error.Error.{Error as BerError}
use Rattle.der_base.specs.declared.error.Error.TheVariants.{NomError, DerConstraintFailed, UnexpectedTag, UnexpectedClass, ConstructExpected}
use Rattle.der_base.specs.declared.error.DerConstraint.TheVariants.{IndefiniteLength}
use Rattle.der_base.specs.declared.error.ErrorKind.{ErrorKind}
use Rattle.der_base.specs.declared.error.ErrorKind.TheVariants.{Eof}
use Rattle.der_base.specs.declared.header.Class.{Class}
use Rattle.der_base.specs.declared.header.Class.TheVariants.{Universal, ContextSpecific}
use Rattle.der_base.specs.declared.header.Header.{Header}
use Rattle.der_base.specs.Octets.{identifier, shortest_length}
use Rattle.der_base.specs.declared.rules.Rules.TheVariants.{Ber, Der}
use Rattle.der_base.specs.Containers.{OpensExplicit, Refuses, RefusesExplicit, unopened, universal, other_number, primitive, faulty, too_short}

abbrev at : List ℕ → Bor (List ℕ)
at w = record { ref_ptr = (0, 0); now = w }

abbrev kind : Bor (List ℕ) → ErrorKind → BerError → Type 0
kind i k e = e ≡ NomError k

abbrev from : BerError → BerError → Type 0
from e x = x ≡ e

-- a header with a definite length, and its identifier octets
abbrev header : Class → Bool → ℕ → ℕ → List ℕ → Header
header c p t n raw = record { class = c; constructed = p; definite = true; has_raw_tag = true; tag = record { 0 = t }; size = n; raw_tag = at raw }

-- the answer where an explicit tag of number 2 is wanted by DER
abbrev IsRefused : List ℕ → BerError → Type 0
IsRefused i e = RefusesExplicit Der kind from 2 i (Error e)

-- a2 05 02 03 01 00 01
opened : OpensExplicit Der 2 (0xa2 ∷ 5 ∷ 2 ∷ 3 ∷ 1 ∷ 0 ∷ 1 ∷ []) (header ContextSpecific true 2 5 (0xa2 ∷ [])) (2 ∷ 3 ∷ 1 ∷ 0 ∷ 1 ∷ []) []
unfolding identifier shortest_length
opened = ((record { size = 5; begins = record { octets = refl; number = lit< tt; length = lit< tt }; length = refl; raw_tag = refl }, refl), (λ e. cc), refl, refl)

-- a3: another number
another_number : IsRefused (0xa3 ∷ 5 ∷ 2 ∷ 3 ∷ 1 ∷ 0 ∷ 1 ∷ []) (UnexpectedTag (Some (record { 0 = 2 })) (record { 0 = 3 }))
unfolding identifier shortest_length
another_number = other_number (header ContextSpecific true 3 5 (0xa3 ∷ [])) (2 ∷ 3 ∷ 1 ∷ 0 ∷ 1 ∷ []) [] {e = UnexpectedTag (Some (record { 0 = 2 })) (record { 0 = 3 })}
    (record { size = 5; begins = record { octets = refl; number = lit< tt; length = lit< tt }; length = refl; raw_tag = refl }, refl) (λ e. cc) (λ e. omega (arith, e)) refl refl

-- 23: class Universal, which is told before the number is compared
class_universal : IsRefused (0x23 ∷ 5 ∷ 2 ∷ 3 ∷ 1 ∷ 0 ∷ 1 ∷ []) (UnexpectedClass None Universal)
unfolding identifier shortest_length
class_universal = universal (header Universal true 3 5 (0x23 ∷ [])) (2 ∷ 3 ∷ 1 ∷ 0 ∷ 1 ∷ []) [] {e = UnexpectedClass None Universal}
    (record { size = 5; begins = record { octets = refl; number = lit< tt; length = lit< tt }; length = refl; raw_tag = refl }, refl) refl refl refl

-- 82: primitive
is_primitive : IsRefused (0x82 ∷ 5 ∷ 2 ∷ 3 ∷ 1 ∷ 0 ∷ 1 ∷ []) ConstructExpected
unfolding identifier shortest_length
is_primitive = primitive (header ContextSpecific false 2 5 (0x82 ∷ [])) (2 ∷ 3 ∷ 1 ∷ 0 ∷ 1 ∷ []) [] {e = ConstructExpected}
    (record { size = 5; begins = record { octets = refl; number = lit< tt; length = lit< tt }; length = refl; raw_tag = refl }, refl) (λ e. cc) refl refl refl refl

-- a2 80: the header is refused first
indefinite : IsRefused (0xa2 ∷ 0x80 ∷ 2 ∷ 3 ∷ 1 ∷ 0 ∷ 1 ∷ 0 ∷ 0 ∷ []) (DerConstraintFailed IndefiniteLength)
unfolding identifier
indefinite =
    unopened (faulty {e = DerConstraintFailed IndefiniteLength} (inr (
      true,
      0x80 ∷ 2 ∷ 3 ∷ 1 ∷ 0 ∷ 1 ∷ 0 ∷ 0
          ∷ [],
      (ContextSpecific, 2, lit< tt, refl),
      inr (inr (inl ((2 ∷ 3 ∷ 1 ∷ 0 ∷ 1 ∷ 0 ∷ 0 ∷ [], refl), refl))),
    )) refl)

-- 30 05 02 01: a container tells a short content as Eof at the octets behind the header
short : Refuses Ber kind from (0x30 ∷ 5 ∷ 2 ∷ 1 ∷ []) (Error (NomError Eof))
unfolding identifier
short = too_short {behind = at (2 ∷ 1 ∷ [])}
    (Universal, true, 16, 5, record { following = 5 ∷ 2 ∷ 1 ∷ []; octets = refl; number = lit< tt; length = (5 ∷ [], (lit< tt, inl (lit< tt, refl, refl)), refl) }, lit< tt) refl
