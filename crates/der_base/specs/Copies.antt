-- What clones and equality of the types that users hold are.
use Rattle.std.specs.Prelude.{◌≡◌, ◌↔◌, Bool, IsTrue}
use Rattle.der_base.specs.declared.any.Any.{Any}
use Rattle.der_base.specs.declared.error.Err.{Err as Refused}
use Rattle.der_base.specs.declared.error.Err.TheVariants.{Incomplete, Error, Failure, OutOfMemory}
use Rattle.der_base.specs.declared.error.Error.{Error as BerError}
use Rattle.der_base.specs.declared.header.Header.{Header}
use Rattle.der_base.specs.declared.oid.Oid.{Oid}
use Rattle.der_base.specs.declared.spans.Span.{Span}
use Rattle.der_base.specs.Header.{class_of, is_constructed, number_of}
use Rattle.der_base.specs.Oids.{octets_of, is_relative_of}
use Rattle.der_base.specs.Refusal.{refusal}

-- each clone is the value itself
abbrev pub AreTheValue : {T : Type 0} → (T → T → Type 0) → Type 0
AreTheValue {T} is_clone = (x y : T) → is_clone x y → y ≡ x

-- it is so of each value
abbrev pub AlwaysSo : {T : Type 0} → (T → Type 0) → Type 0
AlwaysSo {T} P = (x : T) → P x

-- values are equal iff they are alike
abbrev pub EqualsAre : {T : Type 0} → (T → T → Type 0) → (T → T → Bool) → Type 0
EqualsAre {T} AreAlike eq = (x y : T) → IsTrue (eq x y) ↔ AreAlike x y

-- in class, constructed bit and number
abbrev pub AreAlikeHeaders : Header → Header → Type 0
AreAlikeHeaders h k = (class_of h ≡ class_of k) × (is_constructed h ≡ is_constructed k) × (number_of h ≡ number_of k)

-- in header and content octets
abbrev pub AreAlikeElements : Any → Any → Type 0
AreAlikeElements a b = AreAlikeHeaders a.header b.header × (a.bytes.now ≡ b.bytes.now)

-- in element, and in how many spans are inside
abbrev pub AreAlikeSpans : Span → Span → Type 0
AreAlikeSpans s s' = AreAlikeElements s.element s'.element × (s.inside ≡ s'.inside)

-- in content octets, and in whether they are relative
abbrev pub AreAlikeIdentifiers : Oid → Oid → Type 0
AreAlikeIdentifiers a b = (octets_of a ≡ octets_of b) × (is_relative_of a ≡ is_relative_of b)

-- in the name of the refusal
abbrev pub AreAlikeErrors : BerError → BerError → Type 0
AreAlikeErrors e e' = refusal e ≡ refusal e'

-- in the case, and in the number of octets or the name of the refusal
abbrev pub AreAlikeAnswers : Refused BerError → Refused BerError → Type 0
AreAlikeAnswers (Incomplete n) (Incomplete m) = n ≡ m
AreAlikeAnswers (Error e) (Error e') = AreAlikeErrors e e'
AreAlikeAnswers (Failure e) (Failure e') = AreAlikeErrors e e'
AreAlikeAnswers OutOfMemory OutOfMemory = Unit {0}
AreAlikeAnswers _ _ = ⊥
