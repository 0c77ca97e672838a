-- The first fault of a list inside a string.
use Rattle.std.specs.Prelude.{◌≡◌, ℕ, ◌+◌, ◌-◌, ◌^◌, min, ◌⊎◌, true, false, Some, List, ◌++◌, length}
use Rattle.der_base.specs.declared.header.Class.TheVariants.{Universal}
use Rattle.der_base.specs.declared.header.Header.{Header}
use Rattle.der_base.specs.declared.header.Length.TheVariants.{Definite}
use Rattle.der_base.specs.declared.rules.Rules.TheVariants.{Ber}
use Rattle.der_base.specs.Header.{class_of, is_constructed, length_of, number_of}
use Rattle.der_elements.specs.Check.Elements.{IsElement}
use Rattle.der_elements.specs.declared.error.ElementError.{ElementError}
use Rattle.der_elements.specs.FirstFault.{IsFirstFaultOf}
use Rattle.der_elements.specs.Visits.{Visited, IsHeaderBy, IsStringFront}

-- x has the header of a SEQUENCE or SET with a definite length, and all octets after the header are its content
-- (8.1.3.3, 8.9, 8.11)
abbrev pub IsListFrame : List ℕ → Type 0
IsListFrame x = (t : ℕ) × (h y : List ℕ) × ((t ≡ 16) ⊎ (t ≡ 17)) × IsHeaderBy Ber Universal true t (Some (length y)) h
    × (x ≡ h ++ y)

-- w is the content of a string of type t that begins at an offset. After its front it is a SEQUENCE or SET by its
-- header, but not an element of BER. Its first fault is at the offset n.
pub record FaultsAt (t : ℕ) (w : List ℕ) (at n : ℕ) : Type 0 where
  pub front : List ℕ
  pub list : List ℕ
  pub parts : w ≡ front ++ list
  pub is_front : IsStringFront t front
  pub frame : IsListFrame list
  pub no_element : ¬ IsElement Ber 101 list
  pub fault : ElementError
  pub first : IsFirstFaultOf Ber 101 list fault
  pub place : n ≡ min (at + length front + fault.offset) (2 ^ 64 - 1)

-- v is a string with the content w, and the list in it has its first fault at the offset n
abbrev pub IsFaultInside : Visited → List ℕ → ℕ → Type 0
IsFaultInside v w n = (v.constructed ≡ false) × (v.class ≡ Universal) × FaultsAt v.number w (v.offset + v.header) n

-- a header is that of a SEQUENCE or SET with this many content octets
abbrev pub IsListOf : Header → ℕ → Type 0
IsListOf h n = (class_of h ≡ Universal) × (is_constructed h ≡ true) × ((number_of h ≡ 16) ⊎ (number_of h ≡ 17))
    × (length_of h ≡ Definite n)
