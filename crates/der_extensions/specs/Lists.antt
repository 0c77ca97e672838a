-- Lists of values of one type, kept as their octets, and what an iterator over one gives.
use Rattle.std.specs.Prelude.{◌≡◌, ◌≢◌, ℕ, ◌<◌, List, [], length, Option, MatchOption}
use Rattle.der_base.specs.declared.rules.Rules.{Rules}
use Rattle.der_base.specs.declared.rules.Rules.TheVariants.{Der}
use Rattle.der_cursor.specs.Formats.{Content, Field, Each}
use Rattle.der_extensions.specs.declared.list.Items.{Items}
use Rattle.der_extensions.specs.declared.list.SequenceOf.{SequenceOf}

-- the octets are fields of one kind, one after another
abbrev pub IsListOf : {V : Type 0} → Field V → Rules → List ℕ → Type 0
IsListOf {V} F r w = (vs : List V) × Each F r w vs

-- SEQUENCE OF or SET OF, whose octets are kept
unfoldable pub ListOf : {V : Type 0} → Field V → Content (List ℕ)
ListOf F r w v = (v ≡ w) × IsListOf F r w

-- SEQUENCE SIZE (1..MAX) OF or SET SIZE (1..MAX) OF, whose octets are kept
unfoldable pub SomeOf : {V : Type 0} → Field V → Content (List ℕ)
SomeOf F r w v = (w ≢ []) × ListOf F r w v

-- a field has at least one octet
abbrev pub TakesOctets : {V : Type 0} → Field V → Type 0
TakesOctets {V} F = (r : Rules) (i : List ℕ) (v : V) (rest : List ℕ) → F r i v rest → length rest < length i

-- the octets of a list, and those of the values that an iterator hasn't given yet
abbrev pub list_octets : {T : Type 0} → SequenceOf T → List ℕ
list_octets x = x.octets.now

abbrev pub items_left : {T : Type 0} → Items T → List ℕ
items_left x = x.left.now

-- the octets i begin with the value v by DER, followed by rest, and with no other value
pub record BeginsWith {V : Type 0} (F : Field V) (i : List ℕ) (v : V) (rest : List ℕ) : Type 0 where
  pub found : F Der i v rest
  pub only : (u : V) (k : List ℕ) → F Der i u k → (v ≡ u) × (rest ≡ k)

abbrev pub BeginsWithNone : {V : Type 0} → Field V → List ℕ → Type 0
BeginsWithNone {V} F i = (v : V) (rest : List ℕ) → ¬ F Der i v rest

-- A call of `next` gives the value that the octets begin with, and leaves those after it. If they begin with no value,
-- it gives None and leaves them.
module _ {S A V : Type 0} (left : S → List ℕ) (view : A → V) (F : Field V) where
  abbrev pub YieldsNext : S → Option A → S → Type 0
  YieldsNext s r t = MatchOption r (BeginsWithNone F (left s) × (left t ≡ left s))
      (λ x. BeginsWith F (left s) (view x) (left t))
