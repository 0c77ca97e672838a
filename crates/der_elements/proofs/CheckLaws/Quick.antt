-- Elements with a header of two octets.
use Rattle.std.proofs.Common.{◌≡◌, ℕ, ◌+◌, ◌-◌, ◌<◌, ◌≤◌, ◌⊎◌, Bool, true, false, List, [], ◌∷◌, ◌++◌, length, Option, Some, None, refl}
use Rattle.std.proofs.Common.{◌∙◌, sym, subst, ap, arith, append_assoc, length-append, inl, inr}
use Rattle.std.specs.Borrow.{Bor}
use Rattle.der_base.specs.declared.header.Class.{Class}
use Rattle.der_base.specs.declared.header.Class.TheVariants.{Universal}
use Rattle.der_base.specs.declared.header.Length.TheVariants.{Definite}
use Rattle.der_base.specs.declared.rules.Rules.{Rules}
use Rattle.der_base.specs.declared.rules.Rules.TheVariants.{Ber, Der}
use Rattle.der_base.specs.Headers.{BeginsWithHeader, BeginsWithDerHeader, LeadingHeader}
use Rattle.der_base.specs.Octets.{identifier, leading_bits}
use Rattle.der_base.specs.Rules.{SpellsHeaderBy}
use Rattle.der_base.specs.Short.{IsShort}
use Rattle.der_base.proofs.Octets.Identifiers.{identifier_short}
use Rattle.der_base.proofs.Octets.ShortestLengths.{shortest_short}
use Rattle.der_elements.specs.declared.check.element.Element.{Element}
use Rattle.der_elements.specs.declared.check.tape.Tape.{Tape}
use Rattle.der_elements.specs.Check.Elements.{AreElements, MayBeConstructed, MayHaveContent}
use Rattle.der_elements.specs.Check.Readers.{BeginsWithElement, BeginsWithPart, Finds, Follows, IsPlain}
use Rattle.der_elements.proofs.CheckLaws.ElementLaws.{constructed_follow, header_finds, no_part, part_found}
use Rattle.der_elements.specs.Check.Tapes.{KeepsElement, KeepsElements, universal_element}
use Rattle.der_elements.proofs.CheckLaws.HeadersBy.{header_same}
use Rattle.der_elements.proofs.CheckLaws.TapeLaws.{Writes, content_listed, element_listed, keeps_none, of_header}

short_begins : (i : List ℕ) (c : Class) (p : Bool) (t first : ℕ) (w rest : List ℕ) → t < 31 → first ≡ leading_bits c p + t → IsShort i first w rest
    → i ≡ identifier c p t ++ length w ∷ (w ++ rest)
short_begins i c p t first w rest lt e s =
    s.1 ∙ ap (λ x. x ∷ length w ∷ (w ++ rest)) e ∙ ap (λ l. l ++ length w ∷ (w ++ rest)) (sym (identifier_short c p t lt))

pub short_header : (i : List ℕ) (c : Class) (p : Bool) (t first : ℕ) (w rest : List ℕ) → t < 31 → first ≡ leading_bits c p + t → IsShort i first w rest
    → BeginsWithHeader i c p t (Definite (length w)) (w ++ rest)
short_header i c p t first w rest lt e s = record {
  following = length w ∷ (w ++ rest);
  octets = short_begins i c p t first w rest lt e s;
  number = omega (arith, lt);
  length = (length w ∷ [], (omega (arith, s.0), inl (s.0, refl, refl)), refl);
}

pub short_der_header : (i : List ℕ) (c : Class) (p : Bool) (t first : ℕ) (w rest : List ℕ) → t < 31 → first ≡ leading_bits c p + t → IsShort i first w rest
    → BeginsWithDerHeader i c p t (length w) (w ++ rest)
short_der_header i c p t first w rest lt e s = record {
  octets = short_begins i c p t first w rest lt e s ∙ sym (append_assoc (identifier c p t) (length w ∷ []) (w ++ rest))
      ∙ ap (λ l. identifier c p t ++ l ++ (w ++ rest)) (sym (shortest_short (length w) s.0));
  number = omega (arith, lt);
  length = omega (arith, s.0);
}

pub short_octets : (i : List ℕ) (first : ℕ) (w rest : List ℕ) → IsShort i first w rest → length i ≡ 2 + length w + length rest
short_octets i first w rest s = omega (arith, ap length s.1, length-append w rest)

-- the header of an element of a universal type
abbrev pub universal_header : Bool → ℕ → List ℕ → List ℕ → LeadingHeader
universal_header p t w rest =
    record { class = Universal; constructed = p; number = t; length = Definite (length w); rest = w ++ rest }

pub spelled : (r : Rules) (i : List ℕ) (p : Bool) (t first : ℕ) (w rest : List ℕ) → t < 31 → first ≡ leading_bits Universal p + t → IsShort i first w rest
    → SpellsHeaderBy r i (universal_header p t w rest)
spelled Ber i p t first w rest small octet short = short_header i Universal p t first w rest small octet short
spelled Der i p t first w rest small octet short = (length w, refl, short_der_header i Universal p t first w rest small octet short)

short_finds : (r : Rules) (d : ℕ) (i : List ℕ) (p : Bool) (t first : ℕ) (w rest : List ℕ) (result : Option (Bor (List ℕ))) → 1 ≤ d → t < 31 → first ≡ leading_bits Universal p + t
    → IsShort i first w rest → Finds (Follows r d Universal p t (Definite (length w)) (w ++ rest)) result → Finds (BeginsWithElement r d i) result
short_finds r d i p t first w rest result deep small octet short f =
    let s = spelled r i p t first w rest small octet short in
    header_finds r d i (universal_header p t w rest) result deep s (λ v h. header_same r i (universal_header p t w rest) v s h) f

-- a list
abbrev pub IsListOctet : ℕ → Type 0
IsListOctet first = (first ≡ 48) ⊎ (first ≡ 49)

pub may_be_list : (r : Rules) → MayBeConstructed r Universal 16 × MayBeConstructed r Universal 17
may_be_list Ber = (λ u. refl, λ u. refl)
may_be_list Der = (λ u. (refl, λ m. refl), λ u. (refl, λ m. refl))

short_list_finds : (r : Rules) (d : ℕ) (i : List ℕ) (first : ℕ) (w rest : List ℕ) (result : Option (Bor (List ℕ))) → 1 ≤ d → IsListOctet first → IsShort i first w rest
    → Finds (BeginsWithPart (AreElements r (d - 1)) (length w) (w ++ rest)) result → Finds (BeginsWithElement r d i) result
short_list_finds r d i first w rest result deep (inl e) short f =
    short_finds r d i true 16 first w rest result deep (omega arith) (omega (arith, e)) short (constructed_follow r d Universal 16 (Definite (length w)) (w ++ rest) result (may_be_list r).0 f)
short_list_finds r d i first w rest result deep (inr e) short f =
    short_finds r d i true 17 first w rest result deep (omega arith) (omega (arith, e)) short (constructed_follow r d Universal 17 (Definite (length w)) (w ++ rest) result (may_be_list r).1 f)

pub short_list : (r : Rules) (d : ℕ) (i : List ℕ) (first : ℕ) (w : List ℕ) (rest : Bor (List ℕ)) → 1 ≤ d → IsListOctet first → IsShort i first w rest.now → AreElements r (d - 1) w → Finds (BeginsWithElement r d i) (Some rest)
short_list r d i first w rest deep is short a = short_list_finds r d i first w rest.now (Some rest) deep is short (part_found (AreElements r (d - 1)) (length w) (w ++ rest.now) w rest refl refl a)

pub no_short_list : (r : Rules) (d : ℕ) (i : List ℕ) (first : ℕ) (w rest : List ℕ) → 1 ≤ d → IsListOctet first → IsShort i first w rest → (AreElements r (d - 1) w → ⊥) → Finds (BeginsWithElement r d i) None
no_short_list r d i first w rest deep is short never = short_list_finds r d i first w rest None deep is short (no_part (AreElements r (d - 1)) (length w) (w ++ rest) w rest refl refl never)

-- a primitive element

pub short_plain : (r : Rules) (d : ℕ) (i : List ℕ) (t : ℕ) (w : List ℕ) (rest : Bor (List ℕ)) → 1 ≤ d → IsShort i t w rest.now → IsPlain r t w → Finds (BeginsWithElement r d i) (Some rest)
short_plain r d i t w rest deep short (some, small, is) =
    short_finds r d i false t t w rest.now (Some rest) deep small (omega arith) short
    (part_found (MayHaveContent r Universal t) (length w) (w ++ rest.now) w rest refl refl (λ u. (λ z. absurd (omega (arith, some, z)), is)))

-- what follows is shorter
pub short_shorter : (i : List ℕ) (first : ℕ) (w rest : List ℕ) → IsShort i first w rest → length rest < length i
short_shorter i first w rest s = omega (arith, ap length s.1, length-append w rest)

-- what is listed of them

short_element : (p : Bool) (t : ℕ) (i : List ℕ) (first : ℕ) (w rest : List ℕ) (end : ℕ) → length i ≤ end → IsShort i first w rest
    → universal_element p t (length w) (end - length rest) 0 ≡ of_header (universal_header p t w rest) p (Definite (length w)) (end - length i) (end - length (w ++ rest)) (end - length rest)
short_element p t i first w rest end room s =
    let size = short_octets i first w rest s in
    let header : end - length rest - length w - 2 ≡ end - length i = omega (arith, size, room) in
    let content : end - length rest - length w ≡ end - length (w ++ rest) = omega (arith, size, room, length-append w rest) in
    let ends : end - length rest ≡ end - length rest - 0 = omega arith in
    cc

list_number : (r : Rules) (first : ℕ) → IsListOctet first → (first - 32 < 31) × (first ≡ leading_bits Universal true + (first - 32)) × MayBeConstructed r Universal (first - 32)
list_number r first (inl e) = let n : first - 32 ≡ 16 = omega (arith, e) in (omega (arith, n), omega (arith, e), subst (λ t. MayBeConstructed r Universal t) (sym n) (may_be_list r).0)
list_number r first (inr e) = let n : first - 32 ≡ 17 = omega (arith, e) in (omega (arith, n), omega (arith, e), subst (λ t. MayBeConstructed r Universal t) (sym n) (may_be_list r).1)

pub short_list_listed : {N : Type 0} {slot : Element → N} (r : Rules) (d : ℕ) (i : List ℕ) (first : ℕ) (w rest : List ℕ) (end after k : ℕ) (e : Element) (old begun mid new : Tape N) → 1 ≤ d → length i ≤ end
    → after ≡ end - length rest → IsListOctet first → IsShort i first w rest → e ≡ universal_element true (first - 32) (length w) after 0 → KeepsElements r slot (d - 1) w after begun mid
    → Writes slot e k old begun mid new → KeepsElement r slot d i end old rest new
short_list_listed {slot = slot} r d i first w rest end after k e old begun mid new deep room ea is short made inside writes =
    let t = first - 32 in
    let (small, octet, may) = list_number r first is in
    let within : length (w ++ rest) ≤ end = omega (arith, short_octets i first w rest short, room, length-append w rest) in
    element_listed r d i rest (universal_header true t w rest) true (Definite (length w)) end k e old begun mid new deep room refl refl (spelled r i true t first w rest small octet short)
    (may, (w, refl, refl, inside.0)) (content_listed r (d - 1) (length w) (w ++ rest) w rest end after begun mid within ea refl refl inside)
    (subst (λ z. e ≡ universal_element true t (length w) z 0) ea made ∙ short_element true t i first w rest end room short) writes

pub short_plain_listed : {N : Type 0} {slot : Element → N} (r : Rules) (d : ℕ) (i : List ℕ) (t : ℕ) (w rest : List ℕ) (end after k : ℕ) (e : Element) (old begun new : Tape N) → 1 ≤ d → length i ≤ end
    → after ≡ end - length rest → IsShort i t w rest → IsPlain r t w → e ≡ universal_element false t (length w) after 0 → Writes slot e k old begun begun new → KeepsElement r slot d i end old rest new
short_plain_listed r d i t w rest end after k e old begun new deep room ea short (some, small, is) made writes =
    element_listed r d i rest (universal_header false t w rest) false (Definite (length w)) end k e old begun begun new deep room refl refl (spelled r i false t t w rest small (omega arith) short)
    (w, refl, refl, λ u. (λ z. absurd (omega (arith, some, z)), is)) (keeps_none begun begun refl refl)
    (subst (λ z. e ≡ universal_element false t (length w) z 0) ea made ∙ short_element false t i t w rest end room short) writes
