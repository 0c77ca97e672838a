-- Octets that are elements of BER or DER, one after another (X.690 8.1.1).
use Rattle.std.specs.Prelude.{◌≡◌, ◌≢◌, ℕ, suc, ◌^◌, ◌<◌, Bool, true, false, ◌||◌}
use Rattle.std.specs.Prelude.{List, [], ◌∷◌, ◌++◌, length}
use Rattle.der_base.specs.declared.header.Class.{Class}
use Rattle.der_base.specs.declared.header.Class.TheVariants.{Universal}
use Rattle.der_base.specs.Leaf.{is_list, is_mapped}
use Rattle.der_base.specs.Octets.{identifier, shortest_length, SpellsLength}
use Rattle.der_base.specs.Spelling.{end_marker}
use Rattle.der_base.specs.Text.{is_one_of, is_within}
use Rattle.der_base.specs.declared.rules.Rules.{Rules}
use Rattle.der_base.specs.declared.rules.Rules.TheVariants.{Ber, Der}
use Rattle.der_contents.specs.ContentRules.{IsContent}

-- the length octets of a definite length: any, or by DER the fewest (8.1.3.3, 10.1)
abbrev pub SpellsLengthBy : Rules → List ℕ → ℕ → Type 0
SpellsLengthBy Ber s n = SpellsLength s n
SpellsLengthBy Der s n = (n < 2 ^ 64) × (s ≡ shortest_length n)

-- the universal numbers that are always primitive: end-of-contents, BOOLEAN, INTEGER, NULL, OBJECT IDENTIFIER, REAL,
-- ENUMERATED, RELATIVE-OID, TIME, and from 31 on DATE, TIME-OF-DAY, DATE-TIME, DURATION, OID-IRI, RELATIVE-OID-IRI
-- (8.1.5, 8.2 to 8.5, 8.8, 8.19 to 8.22, 8.26)
abbrev pub is_always_primitive : ℕ → Bool
is_always_primitive t = is_one_of (0 ∷ 1 ∷ 2 ∷ 5 ∷ 6 ∷ 9 ∷ 10 ∷ 13 ∷ 14 ∷ []) t || is_within 31 36 t

-- an element of this class and number may be constructed; by DER no string and no time (10.2)
abbrev pub MayBeConstructed : Rules → Class → ℕ → Type 0
MayBeConstructed Ber c t = c ≡ Universal → is_always_primitive t ≡ false
MayBeConstructed Der c t = c ≡ Universal → (is_always_primitive t ≡ false) × (is_mapped t ≡ true → is_list t ≡ true)

-- a primitive element of this class and number may have these content octets (8.2 to 8.26, and by DER 10 and 11);
-- end-of-contents octets aren't an element (8.1.5)
abbrev pub MayHaveContent : Rules → Class → ℕ → List ℕ → Type 0
MayHaveContent r c t w = c ≡ Universal → (t ≢ 0) × IsContent r t w

mutual
  -- elements, one after another, to a depth
  pub data AreElements (r : Rules) : ℕ → List ℕ → Type 0 where
    none : {d : ℕ} → AreElements r d []
    one_more : {d : ℕ} {i : List ℕ} (b rest : List ℕ) → i ≡ b ++ rest → IsElement r d b → AreElements r d rest
        → AreElements r d i

  -- One element. The content octets of a constructed one are elements whatever its class (8.1.4). With an indefinite
  -- length, which DER forbids, end-of-contents octets follow them (8.1.3.6, 10.1).
  pub data IsElement (r : Rules) : ℕ → List ℕ → Type 0 where
    primitive : {d : ℕ} {b : List ℕ} (c : Class) (t : ℕ) (s w : List ℕ) → t < 2 ^ 32 → SpellsLengthBy r s (length w)
        → b ≡ identifier c false t ++ s ++ w → MayHaveContent r c t w → IsElement r (suc d) b
    constructed : {d : ℕ} {b : List ℕ} (c : Class) (t : ℕ) (s w : List ℕ) → t < 2 ^ 32 → SpellsLengthBy r s (length w)
        → b ≡ identifier c true t ++ s ++ w → MayBeConstructed r c t → AreElements r d w → IsElement r (suc d) b
    indefinite : {d : ℕ} {b : List ℕ} (c : Class) (t : ℕ) (w : List ℕ) → t < 2 ^ 32 → r ≡ Ber
        → b ≡ identifier c true t ++ 128 ∷ w ++ end_marker → MayBeConstructed r c t → AreElements r d w
        → IsElement r (suc d) b
