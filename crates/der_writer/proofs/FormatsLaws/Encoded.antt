-- Octets that encode a value: an element of its content, and fields one after another.
use Rattle.std.proofs.Common.{◌≡◌, ◌≢◌, ℕ, ◌^◌, ◌<◌, ◌≤◌, ◌⊎◌, Bool, true, Option, Some, None, List, [], ◌∷◌, ◌++◌, length, refl, sym, ap, subst, ◌∙◌, arith, lit<, append_assoc, length-append, inl, inr}
use Rattle.std.proofs.lemmas.List.{append-nil}
use Rattle.der_base.specs.declared.header.Class.{Class}
use Rattle.der_base.specs.declared.header.Class.TheVariants.{Universal, ContextSpecific}
use Rattle.der_base.specs.declared.rules.Rules.{Rules}
use Rattle.der_base.specs.declared.rules.Rules.TheVariants.{Der}
use Rattle.der_base.specs.Encoding.{element}
use Rattle.der_base.specs.Octets.{identifier, shortest_length}
use Rattle.der_base.specs.Spelling.{max_object_size}
use Rattle.der_base.proofs.Octets.Identifiers.{identifier_same}
use Rattle.der_values.proofs.LawsLaws.Spellings.DerWithinBer.{element_header}
use Rattle.der_base.specs.declared.header.Length.TheVariants.{Definite}
use Rattle.der_cursor.specs.Elements.{BeginsWithTag, IsNext}
use Rattle.der_cursor.specs.Formats.{Content, Field, Format, Required, Optional, Default, OptionalTagged, DefaultTagged, IfLeft, AnyElement, Choice, Passed, ◌⨟◌, ◌⨾◌, End, Each, Others, Only, As, Ignored, Octets, Value}
use Rattle.der_cursor.specs.Formats.{Constructed, Primitive, Tagged, Limited, OctetStringOf, Time, OptionalTime}
use Rattle.der_values.specs.Kinds.{Kind}
use Rattle.der_base.specs.declared.time.ASN1DateTime.{ASN1DateTime}
use Rattle.der_writer.specs.Fields.{primitive, constructed, OctetString}
use Rattle.der_writer.specs.Written.{if_some}
use Rattle.der_writer.specs.Formats.Encodings.{Encodes, EncodesContent}

-- Elements.

-- a content is no longer than its element
size_within : (c : Class) (p : Bool) (t : ℕ) (w : List ℕ) → length w ≤ length (element c p t w)
size_within c p t w = omega (arith, length-append (identifier c p t ++ shortest_length (length w)) w)

pub required_encodes : {V : Type 0} (T : Format V) {v : V} {w : List ℕ} → T.number < 2 ^ 32 → EncodesContent T.content v w
    → Encodes (Required T) v (element T.class T.constructed T.number w)
unfolding Required
required_encodes T {w = w} small h = record {
  read = λ few rest.
      let size : length w ≤ max_object_size = omega (arith, few, size_within T.class T.constructed T.number w) in
      (w, h.read size, element_header _ w rest T.class T.constructed T.number small refl size);
}

-- a SEQUENCE, a SET, a tag around a content
pub constructed_encodes : {V : Type 0} (c : Class) (t : ℕ) {C : Content V} {v : V} {w : List ℕ} → t < 2 ^ 32 → EncodesContent C v w
    → Encodes (Required (Constructed c t C)) v (constructed c t w)
unfolding constructed
constructed_encodes c t {C = C} small h = required_encodes (Constructed c t C) small h

-- a value of a universal type
pub primitive_encodes : {V : Type 0} (k : Rules → Kind V) (t : ℕ) (w : List ℕ) (v : V) → t < 2 ^ 32 → Value k Der w v
    → Encodes (Required (Primitive t (Value k))) v (primitive Universal t w)
unfolding primitive
primitive_encodes k t w v small h = required_encodes (Primitive t (Value k)) small (record { read = λ few. h })

-- and under an implicit tag
pub implicit_encodes : {V : Type 0} (k : Rules → Kind V) (t : ℕ) (c : Class) (n : ℕ) (w : List ℕ) (v : V) → n < 2 ^ 32 → Value k Der w v
    → Encodes (Required (Tagged c n (Primitive t (Value k)))) v (primitive c n w)
unfolding primitive
implicit_encodes k t c n w v small h = required_encodes (Tagged c n (Primitive t (Value k))) small (record { read = λ few. h })

-- an OCTET STRING of a content
pub octets_of_encode : {V : Type 0} {C : Content V} {v : V} {w : List ℕ} → EncodesContent C v w → Encodes (Required (OctetStringOf C)) v (OctetString w)
unfolding primitive
octets_of_encode {C = C} h = required_encodes (OctetStringOf C) (lit< tt) h

-- a value of which P holds
pub limited_encodes : {V : Type 0} (P : V → Type 0) (c : Class) (t : ℕ) {C : Content V} {v : V} {w : List ℕ} → t < 2 ^ 32 → P v → EncodesContent C v w
    → Encodes (Required (Limited P (Constructed c t C))) v (constructed c t w)
unfolding constructed
limited_encodes P c t {C = C} small holds h = required_encodes (Limited P (Constructed c t C)) small (record { read = λ few. (h.read few, holds) })

-- any element, with its header
pub any_encodes : (c : Class) (p : Bool) (t : ℕ) (w : List ℕ) → t < 2 ^ 32
    → Encodes AnyElement (c, p, t, w, Definite (length w), Some (identifier c p t)) (element c p t w)
unfolding AnyElement
any_encodes c p t w small = record {
  read = λ few rest.
      let size : length w ≤ max_object_size = omega (arith, few, size_within c p t w) in
      (element_header _ w rest c p t small refl size, (refl, refl));
}

-- one of a choice
pub choice_encodes : {K V : Type 0} (F : K → Format V) (k : K) {v : V} {e : List ℕ} → Encodes (Required (F k)) v e → Encodes (Choice F) (k, v) e
unfolding Choice
choice_encodes F k h = record { read = h.read }

-- Fields.

-- one that may be absent
pub some_encodes : {V : Type 0} (T : Format V) {v : V} {e : List ℕ} → Encodes (Required T) v e → Encodes (Optional T) (Some v) e
unfolding Optional
some_encodes T h = record { read = h.read }

-- one with a default, which isn't encoded (X.690 11.5)
pub other_encodes : {V : Type 0} (T : Format V) (d : V) {v : V} {e : List ℕ} → v ≢ d → Encodes (Required T) v e → Encodes (Default T d) v e
unfolding Default
other_encodes T d other h = record { read = λ few rest. inr (h.read few rest, (λ by_der. other)) }

-- a content under an explicit tag
pub tagged_encodes : {V : Type 0} (n : ℕ) {C : Content V} {v : V} {w : List ℕ} → n < 2 ^ 32 → EncodesContent C v w
    → Encodes (OptionalTagged n C) (Some v) (constructed ContextSpecific n w)
unfolding OptionalTagged constructed
tagged_encodes n {w = w} small h = record {
  read = λ few rest.
      let size : length w ≤ max_object_size = omega (arith, few, size_within ContextSpecific true n w) in
      (w, h.read size, element_header _ w rest ContextSpecific true n small refl size);
}

-- the same with a default
pub other_tagged_encodes : {V : Type 0} (n : ℕ) (d : V) {C : Content V} {v : V} {w : List ℕ} → n < 2 ^ 32 → v ≢ d → EncodesContent C v w
    → Encodes (DefaultTagged n C d) v (constructed ContextSpecific n w)
unfolding DefaultTagged constructed
other_tagged_encodes n d {w = w} small other h = record {
  read = λ few rest.
      let size : length w ≤ max_object_size = omega (arith, few, size_within ContextSpecific true n w) in
      inr (w, h.read size, element_header _ w rest ContextSpecific true n small refl size, (λ by_der. other));
}

-- a time that may be absent
pub some_time_encodes : {v : ASN1DateTime} {e : List ℕ} → Encodes Time v e → Encodes OptionalTime (Some v) e
unfolding OptionalTime
some_time_encodes h = record { read = h.read }

-- a field whose value isn't kept
pub passed_encodes : {V : Type 0} {F : Field V} {v : V} {e : List ℕ} → Encodes F v e → Encodes (Passed F) tt e
unfolding Passed
passed_encodes {v = v} h = record { read = λ few rest. (v, h.read few rest) }

-- a field and the next one
pub both_encode : {V W : Type 0} {F : Field V} {G : Field W} {v : V} {x : W} {e g : List ℕ} → Encodes F v e → Encodes G x g → Encodes (F ⨟ G) (v, x) (e ++ g)
unfolding ◌⨟◌
both_encode {F = F} {v = v} {e = e} {g = g} h k = record {
  read = λ few rest.
      let front : length e ≤ max_object_size = omega (arith, few, length-append e g) in
      let behind : length g ≤ max_object_size = omega (arith, few, length-append e g) in
      let P : List ℕ → Type 0 = λ l. F Der l v (g ++ rest) in
      (g ++ rest, subst P (sym (append_assoc e g rest)) (h.read front (g ++ rest)), k.read behind rest);
}

-- Contents.

pub last_encodes : {V : Type 0} {F : Field V} {v : V} {e : List ℕ} → Encodes F v e → EncodesContent (F ⨾ End) (v, tt) e
unfolding ◌⨾◌ End
last_encodes {F = F} {v = v} {e = e} h = record {
  read = λ few. let P : List ℕ → Type 0 = λ l. F Der l v [] in ([], subst P (append-nil e) (h.read few []), refl);
}

pub only_encodes : {V : Type 0} {F : Field V} {v : V} {e : List ℕ} → Encodes F v e → EncodesContent (Only F) v e
unfolding Only
only_encodes {F = F} {v = v} {e = e} h = record {
  read = λ few. let P : List ℕ → Type 0 = λ l. F Der l v [] in subst P (append-nil e) (h.read few []);
}

pub before_encodes : {V W : Type 0} {F : Field V} {C : Content W} {v : V} {x : W} {e w : List ℕ} → Encodes F v e → EncodesContent C x w
    → EncodesContent (F ⨾ C) (v, x) (e ++ w)
unfolding ◌⨾◌
before_encodes {e = e} {w = w} h g = record {
  read = λ few.
      let front : length e ≤ max_object_size = omega (arith, few, length-append e w) in
      let behind : length w ≤ max_object_size = omega (arith, few, length-append e w) in
      (w, h.read front w, g.read behind);
}

-- an absent field, where what follows isn't of its class and number
pub absent_encodes : {V W : Type 0} (T : Format V) {C : Content W} {x : W} {w : List ℕ} → ¬ IsNext T.class T.number w → EncodesContent C x w
    → EncodesContent (Optional T ⨾ C) (None, x) w
unfolding ◌⨾◌ Optional
absent_encodes T {w = w} other h = record { read = λ few. (w, (other, refl), h.read few) }

-- a default
pub default_encodes : {V W : Type 0} (T : Format V) (d : V) {C : Content W} {x : W} {w : List ℕ} → ¬ IsNext T.class T.number w → EncodesContent C x w
    → EncodesContent (Default T d ⨾ C) (d, x) w
unfolding ◌⨾◌ Default
default_encodes T d {w = w} other h = record { read = λ few. (w, inl (other, refl, refl), h.read few) }

-- an absent explicit tag, and the default of one
pub absent_tagged_encodes : {V W : Type 0} (n : ℕ) (D : Content V) {C : Content W} {x : W} {w : List ℕ} → ¬ BeginsWithTag n w → EncodesContent C x w
    → EncodesContent (OptionalTagged n D ⨾ C) (None, x) w
unfolding ◌⨾◌ OptionalTagged
absent_tagged_encodes n D {w = w} other h = record { read = λ few. (w, (other, refl), h.read few) }

pub default_tagged_encodes : {V W : Type 0} (n : ℕ) (d : V) (D : Content V) {C : Content W} {x : W} {w : List ℕ} → ¬ BeginsWithTag n w → EncodesContent C x w
    → EncodesContent (DefaultTagged n D d ⨾ C) (d, x) w
unfolding ◌⨾◌ DefaultTagged
default_tagged_encodes n d D {w = w} other h = record { read = λ few. (w, inl (other, refl, refl), h.read few) }

-- such a tag isn't next where no element of its class and number is
pub no_tag : (n : ℕ) (w : List ℕ) → ¬ IsNext ContextSpecific n w → ¬ BeginsWithTag n w
no_tag n w other = λ h. other (true, h.0, h.1)

-- an absent time
pub absent_time_encodes : {W : Type 0} {C : Content W} {x : W} {w : List ℕ} → ¬ IsNext Universal 23 w → ¬ IsNext Universal 24 w → EncodesContent C x w
    → EncodesContent (OptionalTime ⨾ C) (None, x) w
unfolding ◌⨾◌ OptionalTime
absent_time_encodes {w = w} utc generalized h = record { read = λ few. (w, ((utc, generalized), refl), h.read few) }

-- a last field that may be absent
pub left_encodes : {V : Type 0} {F : Field V} {v : V} {e : List ℕ} → e ≢ [] → Encodes F v e → EncodesContent (IfLeft F ⨾ End) (Some v, tt) e
unfolding ◌⨾◌ End IfLeft
left_encodes {F = F} {v = v} {e = e} some h = record {
  read = λ few. let P : List ℕ → Type 0 = λ l. F Der l v [] in ([], (some, subst P (append-nil e) (h.read few [])), refl);
}

pub none_left : {V : Type 0} (F : Field V) → EncodesContent (IfLeft F ⨾ End) (None, tt) []
unfolding ◌⨾◌ End IfLeft
none_left F = record { read = λ few. ([], (refl, refl), refl) }

-- an element of another class or number
pub other_next : (c c' : Class) (n n' : ℕ) (p : Bool) (w rest : List ℕ) → ¬ ((c ≡ c') × (n ≡ n')) → ¬ IsNext c n (element c' p n' w ++ rest)
other_next c c' n n' p w rest other h =
    let e : identifier c' p n' ++ (shortest_length (length w) ++ (w ++ rest)) ≡ identifier c h.0 n ++ h.1 =
    sym (append_assoc (identifier c' p n') (shortest_length (length w)) (w ++ rest)) ∙ sym (append_assoc (identifier c' p n' ++ shortest_length (length w)) w rest) ∙ h.2 in
    let same = identifier_same c' c p h.0 n' n (shortest_length (length w) ++ (w ++ rest)) h.1 e in
    other (sym same.0, sym same.2)

-- fields of one kind
pub none_encode : {V : Type 0} (F : Field V) → EncodesContent (Each F) [] []
unfolding Each
none_encode F = record { read = λ few. refl }

pub more_encode : {V : Type 0} {F : Field V} {v : V} {vs : List V} {e w : List ℕ} → Encodes F v e → EncodesContent (Each F) vs w
    → EncodesContent (Each F) (v ∷ vs) (e ++ w)
unfolding Each
more_encode {e = e} {w = w} h g = record {
  read = λ few.
      let front : length e ≤ max_object_size = omega (arith, few, length-append e w) in
      let behind : length w ≤ max_object_size = omega (arith, few, length-append e w) in
      (w, h.read front w, g.read behind);
}

-- the same octets, grouped in another way
pub regrouped : {V : Type 0} {C : Content V} {v : V} {x y : List ℕ} → x ≡ y → EncodesContent C v x → EncodesContent C v y
regrouped {C = C} {v = v} e h = let P : List ℕ → Type 0 = λ l. EncodesContent C v l in subst P e h

pub one_encodes : {V : Type 0} {F : Field V} {v : V} {e : List ℕ} → Encodes F v e → EncodesContent (Each F) (v ∷ []) e
one_encodes {F = F} {e = e} h = regrouped (append-nil e) (more_encode h (none_encode F))

-- elements that aren't kept
pub others_encode : {vs : List (Unit {0})} {w : List ℕ} → EncodesContent (Each (Passed AnyElement)) vs w → EncodesContent Others tt w
unfolding Others
others_encode {vs = vs} h = record { read = λ few. (vs, h.read few) }

-- octets that are kept, and such that aren't asked
pub octets_content : (w : List ℕ) → EncodesContent Octets w w
unfolding Octets
octets_content w = record { read = λ few. refl }

pub ignored_content : (w : List ℕ) → EncodesContent Ignored tt w
unfolding Ignored
ignored_content w = record { read = λ few. tt }

-- a content whose value stands for another
pub as_encodes : {V W : Type 0} (f : V → W) {C : Content V} {v : V} {w : List ℕ} → EncodesContent C v w → EncodesContent (As f C) (f v) w
unfolding As
as_encodes f {v = v} h = record { read = λ few. (v, h.read few, refl) }

-- Fields that a value may leave out.

-- octets of a value, if there is one
pub if_some_encodes : {V W : Type 0} (T : Format V) {C : Content W} {x : W} {f : V → List ℕ} {w : List ℕ} (o : Option V)
    → ((v : V) → o ≡ Some v → Encodes (Required T) v (f v)) → (o ≡ None → ¬ IsNext T.class T.number w) → EncodesContent C x w
    → EncodesContent (Optional T ⨾ C) (o, x) (if_some f o ++ w)
if_some_encodes T None own other h = absent_encodes T (other refl) h
if_some_encodes T (Some v) own other h = before_encodes (some_encodes T (own v refl)) h

-- octets of a value, unless it is the default
pub unless_encodes : {V W : Type 0} (T : Format V) (d : V) {C : Content W} {v : V} {x : W} {o e w : List ℕ}
    → ((v ≡ d) × (e ≡ [])) ⊎ ((v ≢ d) × (e ≡ o)) → Encodes (Required T) v o → (v ≡ d → ¬ IsNext T.class T.number w) → EncodesContent C x w
    → EncodesContent (Default T d ⨾ C) (v, x) (e ++ w)
unless_encodes T d {C = C} {v = v} {x = x} {w = w} (inl (same, none)) own other h =
    let P : _ → Type 0 = λ y. EncodesContent (Default T d ⨾ C) (y, x) w in
    regrouped (ap (λ l. l ++ w) (sym none)) (subst P (sym same) (default_encodes T d (other same) h))
unless_encodes T d {w = w} (inr (differs, is)) own other h =
    regrouped (ap (λ l. l ++ w) (sym is)) (before_encodes (other_encodes T d differs own) h)
