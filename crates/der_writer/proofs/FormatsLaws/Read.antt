-- What a format reads by DER is what the writer's words are for its value: the other direction of Encoded and Values.
use Rattle.std.proofs.Common.{◌≡◌, ◌≢◌, ℕ, ◌⊎◌, ⊎_elim, Bool, true, Option, Some, None, List, [], ◌∷◌, ◌++◌, length, refl, sym, ap, subst, ◌∙◌, append_assoc, inl, inr}
use Rattle.std.specs.List.{flat_map}
use Rattle.std.proofs.lemmas.List.{append-nil}
use Rattle.der_base.specs.declared.header.Class.{Class}
use Rattle.der_base.specs.declared.header.Class.TheVariants.{Universal, ContextSpecific}
use Rattle.der_base.specs.declared.rules.Rules.{Rules}
use Rattle.der_base.specs.declared.rules.Rules.TheVariants.{Der}
use Rattle.der_base.specs.declared.time.ASN1DateTime.{ASN1DateTime}
use Rattle.der_base.specs.Encoding.{element}
use Rattle.der_base.specs.Octets.{identifier, shortest_length}
use Rattle.der_cursor.specs.Elements.{SpellsElement}
use Rattle.der_cursor.specs.Formats.{Content, Field, Format, Required, Optional, Default, OptionalTagged, DefaultTagged, IfLeft, AnyElement, Choice, ◌⨟◌, ◌⨾◌, End, Each, Only, As, Octets, Constructed, Primitive, Tagged, Limited, OctetStringOf, Time, OptionalTime, Value}
use Rattle.der_values.specs.Kinds.{Kind, times}
use Rattle.der_writer.specs.Fields as put
use Rattle.der_writer.specs.Fields.{primitive, constructed}
use Rattle.der_writer.specs.Written.{if_some}
use Rattle.der_writer.specs.Formats.Encodings.{Encodes, EncodesOnly, IsWrittenAs, IsContentWrittenAs, AreOctets, short_year}
use Rattle.der_writer.proofs.FormatsLaws.ReadValues.{utc_written, generalized_written}

behind_octets : (v w : List ℕ) → AreOctets (v ++ w) → AreOctets w
behind_octets [] w h = h
behind_octets (b ∷ v) w h = behind_octets v w h.1

front_octets : (v w : List ℕ) → AreOctets (v ++ w) → AreOctets v
front_octets [] w h = tt
front_octets (b ∷ v) w h = (h.0, front_octets v w h.1)

-- Elements.

-- the octets of an element by DER
pub element_is : (c : Class) (p : Bool) (t : ℕ) (i w rest : List ℕ) → SpellsElement Der c p t i (w, rest) → i ≡ element c p t w ++ rest
element_is c p t i w rest begins = begins.octets ∙ sym (append_assoc (identifier c p t ++ shortest_length (length w)) w rest)

-- and of its content
pub content_are : (c : Class) (p : Bool) (t : ℕ) (i w rest : List ℕ) → i ≡ element c p t w ++ rest → AreOctets i → AreOctets w
content_are c p t i w rest e octets =
    behind_octets (identifier c p t ++ shortest_length (length w)) w (front_octets (element c p t w) rest (subst AreOctets e octets))

element_written : {V : Type 0} (c : Class) (p : Bool) (t : ℕ) {C : Content V} {f : V → List ℕ} → IsContentWrittenAs C f
    → (i : List ℕ) (v : V) (w rest : List ℕ) → AreOctets i → C Der w v → SpellsElement Der c p t i (w, rest) → i ≡ element c p t (f v) ++ rest
element_written c p t h i v w rest octets content begins =
    let e = element_is c p t i w rest begins in
    e ∙ ap (λ l. element c p t l ++ rest) (h.written w v (content_are c p t i w rest e octets) content)

-- Fields.

pub required_written : {V : Type 0} (T : Format V) {f : V → List ℕ} → IsContentWrittenAs T.content f
    → IsWrittenAs (Required T) (λ v. element T.class T.constructed T.number (f v))
unfolding Required
required_written T h = record {
  written = λ i v rest octets (w, content, begins).
      element_written T.class T.constructed T.number h i v w rest octets content begins;
}

-- a SEQUENCE, a SET, a tag around a content
pub constructed_written : {V : Type 0} (c : Class) (t : ℕ) {C : Content V} {f : V → List ℕ} → IsContentWrittenAs C f
    → IsWrittenAs (Required (Constructed c t C)) (λ v. constructed c t (f v))
unfolding constructed
constructed_written c t {C = C} h = required_written (Constructed c t C) h

-- a value of a universal type
pub primitive_written : {V : Type 0} (k : Rules → Kind V) (t : ℕ) {f : V → List ℕ} → IsContentWrittenAs (Value k) f
    → IsWrittenAs (Required (Primitive t (Value k))) (λ v. primitive Universal t (f v))
unfolding primitive
primitive_written k t h = required_written (Primitive t (Value k)) h

-- and under an implicit tag
pub implicit_written : {V : Type 0} (k : Rules → Kind V) (t : ℕ) (c : Class) (n : ℕ) {f : V → List ℕ} → IsContentWrittenAs (Value k) f
    → IsWrittenAs (Required (Tagged c n (Primitive t (Value k)))) (λ v. primitive c n (f v))
unfolding primitive
implicit_written k t c n h = required_written (Tagged c n (Primitive t (Value k))) h

-- values of which P holds
pub limited_written : {V : Type 0} (P : V → Type 0) (T : Format V) {f : V → List ℕ} → IsWrittenAs (Required T) f → IsWrittenAs (Required (Limited P T)) f
unfolding Required
limited_written P T h = record { written = λ i v rest octets (w, (content, holds), begins). h.written i v rest octets (w, content, begins) }

-- an OCTET STRING of a content
pub octets_of_written : {V : Type 0} {C : Content V} {f : V → List ℕ} → IsContentWrittenAs C f → IsWrittenAs (Required (OctetStringOf C)) (λ v. put.OctetString (f v))
unfolding primitive
octets_of_written {C = C} h = required_written (OctetStringOf C) h

-- any element
pub any_written : IsWrittenAs AnyElement (λ e. element e.0 e.1 e.2 e.3)
unfolding AnyElement
any_written = record {
  written = λ i e rest octets r. element_is e.0 e.1 e.2 i e.3 rest r.0;
}

-- one of a choice
pub choice_written : {K V : Type 0} (F : K → Format V) (f : K → V → List ℕ) → ((k : K) → IsWrittenAs (Required (F k)) (f k))
    → IsWrittenAs (Choice F) (λ v. f v.0 v.1)
unfolding Choice
choice_written F f h = record { written = λ i v rest octets r. (h v.0).written i v.1 rest octets r }

optional_octets : {V : Type 0} (T : Format V) {f : V → List ℕ} → IsWrittenAs (Required T) f → (i : List ℕ) (v : Option V) (rest : List ℕ)
    → AreOctets i → Optional T Der i v rest → i ≡ if_some f v ++ rest
unfolding Optional
optional_octets T h i None rest octets r = r.1
optional_octets T h i (Some v) rest octets r = h.written i v rest octets r

-- one that may be absent
pub optional_written : {V : Type 0} (T : Format V) {f : V → List ℕ} → IsWrittenAs (Required T) f → IsWrittenAs (Optional T) (if_some f)
optional_written T {f = f} h = record { written = λ i v rest octets r. optional_octets T h i v rest octets r }

-- one with a default, which isn't there iff it is the default
pub default_written : {V : Type 0} (T : Format V) (d : V) {f : V → List ℕ} → IsWrittenAs (Required T) f → (i : List ℕ) (v : V) (rest : List ℕ)
    → AreOctets i → Default T d Der i v rest → ((v ≡ d) × (i ≡ rest)) ⊎ ((v ≢ d) × (i ≡ f v ++ rest))
unfolding Default
default_written T d h i v rest octets r =
    ⊎_elim (λ k. inl (k.1, k.2)) (λ k. inr (k.1 refl, h.written i v rest octets k.0)) r

-- by octets that are none for the default
pub unless_written : {V : Type 0} (T : Format V) (d : V) {f : V → List ℕ} (g : V → List ℕ) → IsWrittenAs (Required T) f → g d ≡ []
    → ((v : V) → v ≢ d → g v ≡ f v) → IsWrittenAs (Default T d) g
unless_written T d g h none other = record {
  written = λ i v rest octets r.
      ⊎_elim
      (λ k. k.1 ∙ ap (λ l. l ++ rest) (sym none ∙ ap g (sym k.0)))
      (λ k. k.1 ∙ ap (λ l. l ++ rest) (sym (other v k.0)))
      (default_written T d h i v rest octets r);
}

tagged_octets : {V : Type 0} (n : ℕ) {C : Content V} {f : V → List ℕ} → IsContentWrittenAs C f → (i : List ℕ) (v : Option V) (rest : List ℕ)
    → AreOctets i → OptionalTagged n C Der i v rest → i ≡ if_some (λ x. constructed ContextSpecific n (f x)) v ++ rest
unfolding OptionalTagged constructed
tagged_octets n h i None rest octets r = r.1
tagged_octets n h i (Some v) rest octets r = element_written ContextSpecific true n h i v r.0 rest octets r.1 r.2

-- a content under an explicit tag, which may be absent
pub tagged_written : {V : Type 0} (n : ℕ) {C : Content V} {f : V → List ℕ} → IsContentWrittenAs C f
    → IsWrittenAs (OptionalTagged n C) (if_some (λ x. constructed ContextSpecific n (f x)))
tagged_written n h = record { written = λ i v rest octets r. tagged_octets n h i v rest octets r }

-- the same with a default, which isn't there iff it is the default
pub default_tagged_written : {V : Type 0} (n : ℕ) (d : V) {C : Content V} {f : V → List ℕ} → IsContentWrittenAs C f → (i : List ℕ) (v : V) (rest : List ℕ)
    → AreOctets i → DefaultTagged n C d Der i v rest → ((v ≡ d) × (i ≡ rest)) ⊎ ((v ≢ d) × (i ≡ constructed ContextSpecific n (f v) ++ rest))
unfolding DefaultTagged constructed
default_tagged_written n d h i v rest octets r =
    ⊎_elim
    (λ k. inl (k.1, k.2))
    (λ k. inr (k.3 refl, element_written ContextSpecific true n h i v k.0 rest octets k.1 k.2))
    r

left_octets : {V : Type 0} {F : Field V} {f : V → List ℕ} → IsWrittenAs F f → (i : List ℕ) (v : Option V) (rest : List ℕ)
    → AreOctets i → IfLeft F Der i v rest → i ≡ if_some f v ++ rest
unfolding IfLeft
left_octets h i None rest octets r = r.1
left_octets h i (Some v) rest octets r = h.written i v rest octets r.1

-- a last field that may be absent
pub left_written : {V : Type 0} {F : Field V} {f : V → List ℕ} → IsWrittenAs F f → IsWrittenAs (IfLeft F) (if_some f)
left_written h = record { written = λ i v rest octets r. left_octets h i v rest octets r }

-- a field and the next one
pub both_written : {V W : Type 0} {F : Field V} {G : Field W} {f : V → List ℕ} {g : W → List ℕ} → IsWrittenAs F f → IsWrittenAs G g
    → IsWrittenAs (F ⨟ G) (λ v. f v.0 ++ g v.1)
unfolding ◌⨟◌
both_written {f = f} {g = g} h k = record {
  written = λ i v rest octets (between, first, second).
      let e = h.written i v.0 between octets first in
      let behind = k.written between v.1 rest (behind_octets (f v.0) between (subst AreOctets e octets)) second in
      e ∙ ap (λ l. f v.0 ++ l) behind ∙ sym (append_assoc (f v.0) (g v.1) rest);
}

-- a time of either type
pub time_written : (i : List ℕ) (v : ASN1DateTime) (rest : List ℕ) → AreOctets i → Time Der i v rest
    → (i ≡ put.UtcTime (short_year v) ++ rest) ⊎ (i ≡ put.GeneralizedTime v ++ rest)
unfolding Time
time_written i v rest octets r =
    ⊎_elim
    (λ k. inl ((primitive_written (λ r. times r 23) 23 utc_written).written i v rest octets k))
    (λ k. inr ((primitive_written (λ r. times r 24) 24 generalized_written).written i v rest octets k))
    r

-- and one that may be absent
pub optional_time_written : (i : List ℕ) (v : Option ASN1DateTime) (rest : List ℕ) → AreOctets i → OptionalTime Der i v rest
    → (i ≡ if_some (λ x. put.UtcTime (short_year x)) v ++ rest) ⊎ (i ≡ if_some put.GeneralizedTime v ++ rest)
unfolding OptionalTime
optional_time_written i None rest octets r = inl r.1
optional_time_written i (Some v) rest octets r = time_written i v rest octets r

-- Contents.

pub end_written : IsContentWrittenAs End (λ v. [])
unfolding End
end_written = record { written = λ w v octets e. e }

pub then_written : {V W : Type 0} {F : Field V} {C : Content W} {f : V → List ℕ} {g : W → List ℕ} → IsWrittenAs F f → IsContentWrittenAs C g
    → IsContentWrittenAs (F ⨾ C) (λ v. f v.0 ++ g v.1)
unfolding ◌⨾◌
then_written {f = f} h k = record {
  written = λ w v octets (rest, first, others).
      let e = h.written w v.0 rest octets first in
      e ∙ ap (λ l. f v.0 ++ l) (k.written rest v.1 (behind_octets (f v.0) rest (subst AreOctets e octets)) others);
}

pub only_written : {V : Type 0} {F : Field V} {f : V → List ℕ} → IsWrittenAs F f → IsContentWrittenAs (Only F) f
unfolding Only
only_written {f = f} h = record { written = λ w v octets r. h.written w v [] octets r ∙ append-nil (f v) }

each_octets : {V : Type 0} {F : Field V} {f : V → List ℕ} → IsWrittenAs F f → (w : List ℕ) (vs : List V) → AreOctets w → Each F Der w vs → w ≡ flat_map f vs
unfolding Each
each_octets h w [] octets r = r
each_octets {f = f} h w (v ∷ vs) octets (rest, first, others) =
    let e = h.written w v rest octets first in
    e ∙ ap (λ l. f v ++ l) (each_octets h rest vs (behind_octets (f v) rest (subst AreOctets e octets)) others)

pub each_written : {V : Type 0} {F : Field V} {f : V → List ℕ} → IsWrittenAs F f → IsContentWrittenAs (Each F) (flat_map f)
each_written h = record { written = λ w vs octets r. each_octets h w vs octets r }

-- a content whose value stands for another
pub as_written : {V W : Type 0} (f : V → W) {g : W → List ℕ} {C : Content V} → IsContentWrittenAs C (λ x. g (f x)) → IsContentWrittenAs (As f C) g
unfolding As
as_written f {g = g} h = record { written = λ w y octets (x, content, e). h.written w x octets content ∙ ap g (sym e) }

-- whatever octets
pub any_octets_written : IsContentWrittenAs Octets (λ w. w)
unfolding Octets
any_octets_written = record { written = λ w v octets e. sym e }

-- Values.

-- what a format reads as a value is what is written for it, where that is read
pub encodes_only : {V : Type 0} {F : Field V} {f : V → List ℕ} {v : V} {e : List ℕ} → IsWrittenAs F f → Encodes F v e → EncodesOnly F v e
encodes_only {F = F} {f = f} {v = v} {e = e} h k = record {
  only = λ octets few i rest are r.
      let P : List ℕ → Type 0 = λ l. F Der l v [] in
      let own : e ≡ f v = h.written e v [] octets (subst P (append-nil e) (k.read few [])) ∙ append-nil (f v) in
      h.written i v rest are r ∙ ap (λ l. l ++ rest) (sym own);
}
