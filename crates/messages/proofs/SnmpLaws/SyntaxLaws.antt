-- The types of values: an element is of one of them at most, and has one value.
use Rattle.std.proofs.Common.{◌≡◌, ◌≢◌, ℕ, ◌+◌, ◌*◌, false, List, [], length, Result, Ok, Err, refl, sym, ap, ◌∙◌, arith}
use Rattle.std.specs.Prelude.{MatchResult}
use Rattle.der_base.specs.declared.error.Error.{Error as BerError}
use Rattle.der_base.specs.declared.header.Class.{Class}
use Rattle.der_base.specs.declared.header.Class.TheVariants.{Universal, Application, ContextSpecific, Private}
use Rattle.der_base.specs.declared.rules.Rules.TheVariants.{Ber}
use Rattle.der_base.specs.LeafRefusal.{IsFirstRefusal}
use Rattle.der_base.specs.Numbers.{signed, unsigned}
use Rattle.der_base.specs.Octets.{class_number}
use Rattle.der_base.specs.Refusal.{Refusal as Name}
use Rattle.der_base.proofs.Leaves.Refusals.{none_refuses}
use Rattle.der_values.specs.Kinds.{identifiers, numbers}
use Rattle.der_cursor.specs.Formats.{Element, End, Value}
use Rattle.messages.specs.declared.snmp.message.Value.{Value as ValueStruct}
use Rattle.messages.specs.Snmp.Messages.{IsSyntax, ReadsSyntax, Syntax, syntax_of}
use Rattle.messages.specs.Snmp.Messages.{integer, octet_string, null, identifier, address, counter32, gauge32, time_ticks, opaque}
use Rattle.messages.specs.Snmp.Messages.{counter64, no_such_object, no_such_instance, end_of_mib_view}

-- the class and the number of a type as one number
abbrev pub code : Syntax → ℕ
code (integer n) = 2
code (octet_string w) = 4
code null = 5
code (identifier w) = 6
code (address w) = 32
code (counter32 n) = 33
code (gauge32 n) = 34
code (time_ticks n) = 35
code (opaque w) = 36
code (counter64 n) = 38
code no_such_object = 64
code no_such_instance = 65
code end_of_mib_view = 66

pub coded : (v : Syntax) (c : Class) (t : ℕ) (w : List ℕ) → IsSyntax v c t w → class_number c * 32 + t ≡ code v
coded (integer n) c t w h = rw (h.0, h.1) refl
coded (octet_string u) c t w h = rw (h.0, h.1) refl
coded null c t w h = rw (h.0, h.1) refl
coded (identifier u) c t w h = rw (h.0, h.1) refl
coded (address u) c t w h = rw (h.0, h.1) refl
coded (counter32 n) c t w h = rw (h.0, h.1) refl
coded (gauge32 n) c t w h = rw (h.0, h.1) refl
coded (time_ticks n) c t w h = rw (h.0, h.1) refl
coded (opaque u) c t w h = rw (h.0, h.1) refl
coded (counter64 n) c t w h = rw (h.0, h.1) refl
coded no_such_object c t w h = rw (h.0, h.1) refl
coded no_such_instance c t w h = rw (h.0, h.1) refl
coded end_of_mib_view c t w h = rw (h.0, h.1) refl

one_code : (v u : Syntax) (c : Class) (t : ℕ) (w : List ℕ) → IsSyntax v c t w → IsSyntax u c t w → code v ≡ code u
one_code v u c t w a b = sym (coded v c t w a) ∙ coded u c t w b

pub one_syntax : (v u : Syntax) (c : Class) (t : ℕ) (w : List ℕ) → code v ≡ code u → IsSyntax v c t w → IsSyntax u c t w → v ≡ u
unfolding Value
one_syntax (integer n) (integer m) c t w e a b = ap integer (a.2.1 ∙ sym b.2.1)
one_syntax (octet_string x) (octet_string y) c t w e a b = ap octet_string (a.2.1 ∙ sym b.2.1)
one_syntax null null c t w e a b = refl
one_syntax (identifier x) (identifier y) c t w e a b = ap identifier (a.2.1 ∙ sym b.2.1)
one_syntax (address x) (address y) c t w e a b = ap address (a.2.0.1 ∙ sym b.2.0.1)
one_syntax (counter32 n) (counter32 m) c t w e a b = ap counter32 (a.2.1 ∙ sym b.2.1)
one_syntax (gauge32 n) (gauge32 m) c t w e a b = ap gauge32 (a.2.1 ∙ sym b.2.1)
one_syntax (time_ticks n) (time_ticks m) c t w e a b = ap time_ticks (a.2.1 ∙ sym b.2.1)
one_syntax (opaque x) (opaque y) c t w e a b = ap opaque (a.2.1 ∙ sym b.2.1)
one_syntax (counter64 n) (counter64 m) c t w e a b = ap counter64 (a.2.1 ∙ sym b.2.1)
one_syntax no_such_object no_such_object c t w e a b = refl
one_syntax no_such_instance no_such_instance c t w e a b = refl
one_syntax end_of_mib_view end_of_mib_view c t w e a b = refl
one_syntax v u c t w e a b = absurd (omega (arith, e))

-- an element that is a value
pub is_value : (e : Element) (x : ValueStruct) → e.1 ≡ false → IsSyntax (syntax_of x) e.0 e.2 e.3 → ReadsSyntax e (Ok x)
is_value e x p h = record {
  found = (p, h);
  only = λ v z. one_syntax (syntax_of x) v e.0 e.2 e.3 (one_code (syntax_of x) v e.0 e.2 e.3 h z.1) h z.1;
}

-- one that isn't
pub no_value : (e : Element) (x : BerError) → ((v : Syntax) → e.1 ≡ false → ¬ IsSyntax v e.0 e.2 e.3) → ReadsSyntax e (Err x)
no_value e x n = record { found = tt; only = λ v z. n v z.0 z.1 }

-- an element whose type has one value, that of no octets
pub value_of_none : (e : Element) (x : ValueStruct) (r : Result ValueStruct BerError) → e.1 ≡ false → MatchResult r (λ y. (e.3 ≡ []) × (y ≡ x)) (λ _. e.3 ≢ []) → (e.3 ≡ [] → IsSyntax (syntax_of x) e.0 e.2 e.3)
    → (e.3 ≢ [] → (v : Syntax) → ¬ IsSyntax v e.0 e.2 e.3) → ReadsSyntax e r
value_of_none e x (Ok y) p m f g = rw m.1 (is_value e x p (f m.0))
value_of_none e x (Err b) p m f g = no_value e b (λ v q z. g m v z)

-- Elements of a type whose octets have no value.

pub no_integer : (w : List ℕ) (x : Name) → IsFirstRefusal ((numbers Ber (signed 32)).tests w) x → (v : Syntax) (c : Class) (t : ℕ) → c ≡ Universal → t ≡ 2 → IsSyntax v c t w → ⊥
unfolding Value
no_integer w x f (integer n) c t p q z = none_refuses ((numbers Ber (signed 32)).tests w) x z.2.0 f
no_integer w x f v c t p q z = omega (arith, coded v c t w z, ap class_number p, q)

pub no_identifier : (w : List ℕ) (x : Name) → IsFirstRefusal (identifiers.tests w) x → (v : Syntax) (c : Class) (t : ℕ) → c ≡ Universal → t ≡ 6 → IsSyntax v c t w → ⊥
unfolding Value
no_identifier w x f (identifier n) c t p q z = none_refuses (identifiers.tests w) x z.2.0 f
no_identifier w x f v c t p q z = omega (arith, coded v c t w z, ap class_number p, q)

pub no_counter32 : (w : List ℕ) (x : Name) → IsFirstRefusal ((numbers Ber (unsigned 32)).tests w) x → (v : Syntax) (c : Class) (t : ℕ) → c ≡ Application → t ≡ 1 → IsSyntax v c t w → ⊥
unfolding Value
no_counter32 w x f (counter32 n) c t p q z = none_refuses ((numbers Ber (unsigned 32)).tests w) x z.2.0 f
no_counter32 w x f v c t p q z = omega (arith, coded v c t w z, ap class_number p, q)

pub no_gauge32 : (w : List ℕ) (x : Name) → IsFirstRefusal ((numbers Ber (unsigned 32)).tests w) x → (v : Syntax) (c : Class) (t : ℕ) → c ≡ Application → t ≡ 2 → IsSyntax v c t w → ⊥
unfolding Value
no_gauge32 w x f (gauge32 n) c t p q z = none_refuses ((numbers Ber (unsigned 32)).tests w) x z.2.0 f
no_gauge32 w x f v c t p q z = omega (arith, coded v c t w z, ap class_number p, q)

pub no_time_ticks : (w : List ℕ) (x : Name) → IsFirstRefusal ((numbers Ber (unsigned 32)).tests w) x → (v : Syntax) (c : Class) (t : ℕ) → c ≡ Application → t ≡ 3 → IsSyntax v c t w → ⊥
unfolding Value
no_time_ticks w x f (time_ticks n) c t p q z = none_refuses ((numbers Ber (unsigned 32)).tests w) x z.2.0 f
no_time_ticks w x f v c t p q z = omega (arith, coded v c t w z, ap class_number p, q)

pub no_counter64 : (w : List ℕ) (x : Name) → IsFirstRefusal ((numbers Ber (unsigned 64)).tests w) x → (v : Syntax) (c : Class) (t : ℕ) → c ≡ Application → t ≡ 6 → IsSyntax v c t w → ⊥
unfolding Value
no_counter64 w x f (counter64 n) c t p q z = none_refuses ((numbers Ber (unsigned 64)).tests w) x z.2.0 f
no_counter64 w x f v c t p q z = omega (arith, coded v c t w z, ap class_number p, q)

pub no_address : (w : List ℕ) → length w ≢ 4 → (v : Syntax) (c : Class) (t : ℕ) → c ≡ Application → t ≡ 0 → IsSyntax v c t w → ⊥
unfolding Value
no_address w f (address u) c t p q z = f (ap length (sym z.2.0.1) ∙ z.2.1)
no_address w f v c t p q z = omega (arith, coded v c t w z, ap class_number p, q)

pub no_null : (w : List ℕ) → w ≢ [] → (v : Syntax) (c : Class) (t : ℕ) → c ≡ Universal → t ≡ 5 → IsSyntax v c t w → ⊥
unfolding End
no_null w f null c t p q z = f z.2
no_null w f v c t p q z = omega (arith, coded v c t w z, ap class_number p, q)

pub no_object : (w : List ℕ) → w ≢ [] → (v : Syntax) (c : Class) (t : ℕ) → c ≡ ContextSpecific → t ≡ 0 → IsSyntax v c t w → ⊥
unfolding End
no_object w f no_such_object c t p q z = f z.2
no_object w f v c t p q z = omega (arith, coded v c t w z, ap class_number p, q)

pub no_instance : (w : List ℕ) → w ≢ [] → (v : Syntax) (c : Class) (t : ℕ) → c ≡ ContextSpecific → t ≡ 1 → IsSyntax v c t w → ⊥
unfolding End
no_instance w f no_such_instance c t p q z = f z.2
no_instance w f v c t p q z = omega (arith, coded v c t w z, ap class_number p, q)

pub no_end : (w : List ℕ) → w ≢ [] → (v : Syntax) (c : Class) (t : ℕ) → c ≡ ContextSpecific → t ≡ 2 → IsSyntax v c t w → ⊥
unfolding End
no_end w f end_of_mib_view c t p q z = f z.2
no_end w f v c t p q z = omega (arith, coded v c t w z, ap class_number p, q)

-- Elements of no type.

pub no_universal : (v : Syntax) (c : Class) (t : ℕ) (w : List ℕ) → c ≡ Universal → t ≢ 2 → t ≢ 4 → t ≢ 5 → t ≢ 6 → IsSyntax v c t w → ⊥
no_universal (integer n) c t w p n2 n4 n5 n6 z = omega (arith, ap class_number p, ap class_number z.0, z.1)
no_universal v c t w p n2 n4 n5 n6 z = omega (arith, ap class_number p, ap class_number z.0, z.1)

pub no_application : (v : Syntax) (c : Class) (t : ℕ) (w : List ℕ) → c ≡ Application → t ≢ 0 → t ≢ 1 → t ≢ 2 → t ≢ 3 → t ≢ 4 → t ≢ 6 → IsSyntax v c t w → ⊥
no_application (integer n) c t w p n0 n1 n2 n3 n4 n6 z = omega (arith, ap class_number p, ap class_number z.0, z.1)
no_application v c t w p n0 n1 n2 n3 n4 n6 z = omega (arith, ap class_number p, ap class_number z.0, z.1)

pub no_context : (v : Syntax) (c : Class) (t : ℕ) (w : List ℕ) → c ≡ ContextSpecific → t ≢ 0 → t ≢ 1 → t ≢ 2 → IsSyntax v c t w → ⊥
no_context (integer n) c t w p n0 n1 n2 z = omega (arith, ap class_number p, ap class_number z.0, z.1)
no_context v c t w p n0 n1 n2 z = omega (arith, ap class_number p, ap class_number z.0, z.1)

pub no_private : (v : Syntax) (c : Class) (t : ℕ) (w : List ℕ) → c ≡ Private → IsSyntax v c t w → ⊥
no_private (integer n) c t w p z = omega (arith, ap class_number p, ap class_number z.0, z.1)
no_private v c t w p z = omega (arith, ap class_number p, ap class_number z.0, z.1)
