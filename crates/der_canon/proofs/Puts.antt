-- Octets of elements that are written.
use Rattle.std.specs.Borrow.{Bor}
use Rattle.std.proofs.Common.{◌≡◌, ◌≢◌, ℕ, ◌+◌, ◌-◌, ◌%◌, ◌^◌, ◌<◌, Bool, true, false, not, Option, Some, None, IsSome, List, [], ◌∷◌, ◌++◌, length, get_or, refl, sym, ap, subst, ◌∙◌, arith}
use Rattle.std.specs.Prelude.{◌==◌, ◌&&◌, if◌then◌else◌}
use Rattle.std.proofs.lemmas.Bool.{and_parts, eq-eqb, ne_eqb}
use Rattle.std.proofs.lemmas.Bool.Decides.{nat_tests}
use Rattle.der_base.specs.declared.header.Class.{Class}
use Rattle.der_base.specs.declared.header.Class.TheVariants.{Universal, Application, ContextSpecific, Private}
use Rattle.der_base.specs.Encoding.{element}
use Rattle.der_base.specs.Octets.{identifier, leading_bits, shortest_length}
use Rattle.der_base.proofs.Octets.Identifiers.{identifier_short}
use Rattle.der_elements.specs.declared.element.Element.{Element}
use Rattle.der_elements.specs.Visits.{Visited}
use Rattle.der_elements.specs.Walked.{visited_of}
use Rattle.der_writer.specs.Octets.{cleared}
use Rattle.der_canon.specs.declared.writer.Writer.{Writer}
use Rattle.der_canon.specs.Contents.{start_of}
use Rattle.der_canon.specs.Same.{is_in_parts, is_string, is_string_of, with_bits, with_part}
use Rattle.der_canon.specs.Sizing.{IsFound}
use Rattle.der_canon.specs.Values.{boolean_in_der, boolean_octet, is_universal, value_in_der}
use Rattle.der_canon.specs.Writing.{Puts}
use Rattle.der_canon.proofs.Buffers.{puts_both}
use Rattle.der_canon.proofs.Contents.{cleared_last}
use Rattle.der_canon.proofs.SameSizes.{length_value}

-- identifier, length and content
pub primitive_put : (e : Element) (w : Bor (List ℕ)) (a b c d : Writer) (o p q r : List ℕ) → IsFound e → e.constructed ≡ false → Puts e.identifier.now a o b p
    → Puts (shortest_length (length w.now)) b p c q → Puts (value_in_der e.class e.number w.now) c q d r
    → Puts (element e.class false e.number (value_in_der e.class e.number w.now)) a o d r
primitive_put e w a b c d o p q r f con first second third =
    let x = value_in_der e.class e.number w.now in
    let front = e.identifier.now in
    let size = shortest_length (length w.now) in
    let all = puts_both (front ++ size) x a c d o q r (puts_both front size a b c o p q first second) third in
    let same : front ≡ identifier e.class false e.number = f.identifier ∙ ap (λ z. identifier e.class z e.number) con in
    let long : size ≡ shortest_length (length x) = ap shortest_length (sym (length_value e.class e.number w.now)) in
    subst (λ z. Puts (identifier e.class false e.number ++ z ++ x) a o d r) long (subst (λ z. Puts (z ++ size ++ x) a o d r) same all)

-- the types of strings are among those whose identifier is one octet
pub small_string : (t : ℕ) → is_string t ≡ true → t < 31
small_string t h = grind (arith, nat_tests)

universal_is : (c : Class) → is_universal c ≡ true → c ≡ Universal
universal_is Universal h = refl
universal_is Application h = absurd (cc)
universal_is ContextSpecific h = absurd (cc)
universal_is Private h = absurd (cc)

pub string_type : (v : Visited) → is_in_parts v ≡ true → (v.class ≡ Universal) × (v.number < 31)
string_type v h =
    let p = and_parts v.constructed (is_string_of v.class v.number) h in
    let q = and_parts (is_universal v.class) (is_string v.number) p.1 in
    (universal_is v.class q.0, small_string v.number q.1)

pub string_identifier : (v : Visited) → is_in_parts v ≡ true → v.number ∷ [] ≡ identifier v.class (not (is_in_parts v)) v.number
string_identifier v h =
    let t = string_type v h in
    let zero : leading_bits Universal false + v.number ≡ v.number = omega arith in
    sym (ap (λ z. identifier v.class (not z) v.number) h ∙ ap (λ z. identifier z false v.number) t.0 ∙ identifier_short Universal false v.number t.1 ∙ ap (λ z. z ∷ []) zero)

pub other_identifier : (e : Element) → IsFound e → e.constructed ≡ true → is_in_parts (visited_of e) ≡ false
    → e.identifier.now ≡ identifier e.class (not (is_in_parts (visited_of e))) e.number
other_identifier e f con plain = f.identifier ∙ ap (λ z. identifier e.class z e.number) con ∙ sym (ap (λ z. identifier e.class (not z) e.number) plain)

-- a part by its type
pub part_bits : (t : ℕ) (w x : List ℕ) → t ≡ 3 → with_bits w x ≡ with_part t w x
part_bits t w x e = sym (ap (λ q. if q then with_bits w x else x ++ w) (eq-eqb t 3 e))

pub part_octets : (t : ℕ) (w x : List ℕ) → t ≢ 3 → x ++ w ≡ with_part t w x
part_octets t w x f = sym (ap (λ q. if q then with_bits w x else x ++ w) (ne_eqb t 3 f))

-- a BOOLEAN has one octet
pub one_boolean : (w : List ℕ) → length w ≡ 1 → boolean_octet (get_or w 0 0) ∷ [] ≡ boolean_in_der w
one_boolean [] h = absurd (omega arith)
one_boolean (b ∷ []) h = refl
one_boolean (b ∷ c ∷ w) h = absurd (omega arith)

pub other_boolean : (w : List ℕ) → length w ≢ 1 → w ≡ boolean_in_der w
other_boolean [] h = refl
other_boolean (b ∷ []) h = absurd (h refl)
other_boolean (b ∷ c ∷ w) h = refl

-- bits, the last octet apart
pub last_cleared : (u b x : ℕ) (w others : List ℕ) → w ≡ others ++ b ∷ [] → x ≡ b - b % 2 ^ u → others ++ x ∷ [] ≡ cleared u w
last_cleared u b x w others e f = ap (λ z. others ++ z ∷ []) f ∙ sym (ap (cleared u) e ∙ cleared_last u b others)

-- what a string in parts begins with
start_true : (p q : Bool) → (p && q) ≡ true → ◌≡◌ {A = List ℕ} (0 ∷ []) (if p then (if q then 0 ∷ [] else []) else [])
start_true true true h = refl
start_true true false h = absurd (cc)
start_true false q h = absurd (cc)

start_false : (p q : Bool) → (p && q) ≡ false → ◌≡◌ {A = List ℕ} [] (if p then (if q then 0 ∷ [] else []) else [])
start_false true true h = absurd (cc)
start_false true false h = refl
start_false false q h = refl

pub bits_start : (v : Visited) → (is_in_parts v && (v.number == 3)) ≡ true → 0 ∷ [] ≡ start_of v
bits_start v h = start_true (is_in_parts v) (v.number == 3) h

pub other_start : (v : Visited) → (is_in_parts v && (v.number == 3)) ≡ false → [] ≡ start_of v
other_start v h = start_false (is_in_parts v) (v.number == 3) h

pub no_octets : (w : List ℕ) → length w ≡ 0 → [] ≡ w
no_octets [] h = refl
no_octets (b ∷ w) h = absurd (omega arith)

-- a primitive element has a content
none_some : (c : Option (Bor (List ℕ))) → IsSome c → c ≡ None → ⊥
none_some None h e = absurd (let k = h in cc)
none_some (Some w) h e = absurd (cc)

pub no_content : (e : Element) → IsFound e → e.constructed ≡ false → e.content ≡ None → ⊥
no_content e f con is = none_some e.content (f.primitive con) is
