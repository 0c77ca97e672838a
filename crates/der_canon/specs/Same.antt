-- Elements of BER, and the octets by which DER writes them.
use Rattle.std.specs.Prelude.{◌≡◌, ℕ, suc, ◌+◌, ◌⊎◌, Bool, true, false, ◌&&◌, ◌||◌, ◌==◌}
use Rattle.std.specs.Prelude.{nat_lt, if◌then◌else◌, Option, Some, None, unwrap_or, List, [], ◌∷◌, ◌++◌, length}
use Rattle.der_base.specs.declared.header.Class.{Class}
use Rattle.der_base.specs.declared.rules.Rules.TheVariants.{Ber, Der}
use Rattle.der_base.specs.Encoding.{element}
use Rattle.der_base.specs.Spelling.{end_marker}
use Rattle.der_base.specs.Text.{is_one_of, is_within}
use Rattle.der_elements.specs.Check.Elements.{MayBeConstructed, MayHaveContent}
use Rattle.der_elements.specs.Visits.{Extras, IsHeaderBy, Visited}
use Rattle.der_elements.specs.Walked.{between}
use Rattle.der_writer.specs.Octets.{cleared}
use Rattle.der_canon.specs.Values.{is_universal, value_in_der}

-- nothing is visited but elements
abbrev pub no_extras : Extras
no_extras = record { enters_strings = false; keeps_values = false }

-- the universal types whose encoding by BER may be in parts: BIT STRING, OCTET STRING, the types of characters and
-- times (8.6, 8.7, 8.23, 8.25)
abbrev pub is_string : ℕ → Bool
is_string t = is_one_of (3 ∷ 4 ∷ 7 ∷ 12 ∷ 30 ∷ []) t || is_within 18 28 t

-- an element of this class and number has one of them
abbrev pub is_string_of : Class → ℕ → Bool
is_string_of c t = is_universal c && is_string t

-- it is a string in parts
abbrev pub is_in_parts : Visited → Bool
is_in_parts v = v.constructed && is_string_of v.class v.number

-- its depth, if it is
abbrev pub parts_of : Visited → Option ℕ
parts_of v = if is_in_parts v then Some v.depth else None

-- it is a part of the string at this depth, or inside one
abbrev pub is_part : Option ℕ → Visited → Bool
is_part None v = false
is_part (Some k) v = nat_lt k v.depth

-- the number of a string's parts: they are BIT STRINGs or OCTET STRINGs (8.6.4.1, 8.7.3.2, 8.23.6)
abbrev pub part_number : Bool → ℕ
part_number is_bits = if is_bits then 3 else 4

-- the content octets of an element of i whose length is definite
abbrev pub content_of : List ℕ → Visited → List ℕ
content_of i v = let begin = v.offset + v.header in between i begin (begin + unwrap_or v.length 0)

-- the content of a string in parts before them: a BIT STRING begins with how many bits are unused (8.6.2)
abbrev pub string_start : ℕ → List ℕ
string_start t = if t == 3 then 0 ∷ [] else []

-- the octets x, with another first octet
abbrev pub with_first : ℕ → List ℕ → List ℕ
with_first u [] = []
with_first u (n ∷ x) = u ∷ x

-- the content x of a BIT STRING, with the bits of one more part: the last part says how many are unused (8.6.4)
abbrev pub with_bits : List ℕ → List ℕ → List ℕ
with_bits [] x = x
with_bits (u ∷ w) x = with_first u x ++ cleared u w

-- the content x of a string, with one more part of this type and content (8.6.4, 8.7.3)
abbrev pub with_part : ℕ → List ℕ → List ℕ → List ℕ
with_part t w x = if t == 3 then with_bits w x else x ++ w

-- the octets b are one constructed element by BER with the content octets w, and its length is definite or not (8.1.3)
abbrev pub IsConstructed : Class → ℕ → List ℕ → List ℕ → Type 0
IsConstructed c t b w = (h : List ℕ) × ((IsHeaderBy Ber c true t (Some (length w)) h × (b ≡ h ++ w))
    ⊎ (IsHeaderBy Ber c true t None h × (b ≡ h ++ w ++ end_marker)))

mutual
  -- the octets w are parts of a string, one after another, by which its content x becomes y
  pub data AreJoined : List ℕ → List ℕ → List ℕ → Type 0 where
    no_parts : {w x y : List ℕ} → w ≡ [] → y ≡ x → AreJoined w x y
    one_more_part : {w x y : List ℕ} (b rest z : List ℕ) → w ≡ b ++ rest → IsPartJoined b x z → AreJoined rest z y
        → AreJoined w x y

  pub data IsPartJoined : List ℕ → List ℕ → List ℕ → Type 0 where
    primitive_part : {b x y : List ℕ} (c : Class) (t : ℕ) (h w : List ℕ)
        → IsHeaderBy Ber c false t (Some (length w)) h → b ≡ h ++ w → y ≡ with_part t w x → IsPartJoined b x y
    constructed_part : {b x y : List ℕ} (c : Class) (t : ℕ) (w : List ℕ) → IsConstructed c t b w → AreJoined w x y
        → IsPartJoined b x y

mutual
  -- The octets i are elements by BER to depth d, one after another, and o are these as DER writes them. Each content
  -- keeps DER's rules.
  pub data AreInDer : ℕ → List ℕ → List ℕ → Type 0 where
    none : {d : ℕ} {i o : List ℕ} → i ≡ [] → o ≡ [] → AreInDer d i o
    one_more : {d : ℕ} {i o : List ℕ} (b rest p q : List ℕ) → i ≡ b ++ rest → o ≡ p ++ q → IsInDer d b p
        → AreInDer d rest q → AreInDer d i o

  -- One element. It keeps its class and number, and its length is in the fewest octets (10.1).
  pub data IsInDer : ℕ → List ℕ → List ℕ → Type 0 where
    primitive : {d : ℕ} {b p : List ℕ} (c : Class) (t : ℕ) (h w : List ℕ)
        → IsHeaderBy Ber c false t (Some (length w)) h → b ≡ h ++ w → MayHaveContent Ber c t w
        → MayHaveContent Der c t (value_in_der c t w) → p ≡ element c false t (value_in_der c t w) → IsInDer (suc d) b p
    constructed : {d : ℕ} {b p : List ℕ} (c : Class) (t : ℕ) (w x : List ℕ) → IsConstructed c t b w
        → MayBeConstructed Ber c t → is_string_of c t ≡ false → AreInDer d w x → p ≡ element c true t x
        → IsInDer (suc d) b p
    -- a string in parts is primitive (10.2), and has their content
    string : {d : ℕ} {b p : List ℕ} (c : Class) (t : ℕ) (w x : List ℕ) → IsConstructed c t b w
        → is_string_of c t ≡ true → AreJoined w (string_start t) x → MayHaveContent Der c t x
        → p ≡ element c false t x → IsInDer (suc d) b p
