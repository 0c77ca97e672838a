-- A value with a default under an implicit tag.
use Rattle.std.proofs.Common.{◌≡◌, ℕ, Bool, List, None, Result, Ok, Err, sym, ap, subst, ◌∙◌, inl, inr}
use Rattle.std.specs.Prelude.{pos}
use Rattle.der_base.specs.declared.error.Error.{Error as BerError}
use Rattle.der_base.specs.declared.header.Class.TheVariants.{ContextSpecific}
use Rattle.der_base.specs.declared.rules.Rules.{Rules}
use Rattle.der_base.specs.Numbers.{unsigned}
use Rattle.der_values.specs.Kinds.{Kind, booleans, numbers}
use Rattle.der_cursor.specs.declared.cursor.Cursor.{Cursor}
use Rattle.der_cursor.specs.declared.error.ReadError.{ReadError}
use Rattle.der_cursor.specs.Cursors.{octets_left, rules_of, advanced, IsTagged, IsNextType, ReadsOr, ReadsValue}
use Rattle.der_cursor.specs.Elements.{IsNext}
use Rattle.der_cursor.specs.Formats.{Boolean, Default, Format, Implicit, Never, Number, Primitive, ReadsField, ReadsNext, Required, Value}
use Rattle.der_cursor.proofs.FormatLaws.{implicit_read}
use Rattle.der_extensions.proofs.NameLaws.{next_of}

-- the cursor asks for the tag that was said
wanted : (t n : ℕ) (old tagged : Cursor) → IsTagged ContextSpecific n old tagged → IsNextType t tagged → IsNext ContextSpecific n (octets_left old)
wanted t n old tagged q h = subst (λ c. IsNextType t c → IsNext ContextSpecific n (octets_left old)) (sym q) (λ z. z) h

unwanted : (t n : ℕ) (old tagged : Cursor) → IsTagged ContextSpecific n old tagged → IsNext ContextSpecific n (octets_left old) → IsNextType t tagged
unwanted t n old tagged q h = subst (λ c. IsNextType t c) (sym q) h

stays : (n : ℕ) (old tagged new : Cursor) → IsTagged ContextSpecific n old tagged → new ≡ advanced tagged tagged.left → (octets_left old ≡ octets_left new) × (new ≡ advanced old new.left)
stays n old tagged new q m =
    let e : new ≡ advanced old old.left = m ∙ ap (λ c. advanced c c.left) q in
    (sym (ap octets_left e), e ∙ ap (λ l. advanced old l) (sym (ap (λ c. c.left) e)))

same_rules : (n : ℕ) (old tagged : Cursor) → IsTagged ContextSpecific n old tagged → rules_of tagged ≡ rules_of old
same_rules n old tagged q = ap rules_of q

-- values of one kind, of which no two of the code stand for one
module _ {X V : Type 0} (value : X → V) (one : (a b : X) → value a ≡ value b → a ≡ b) (k : Rules → Kind V) (t : ℕ) (d : X) (n : ℕ) (old tagged new : Cursor)
    (q : IsTagged ContextSpecific n old tagged) where
  abbrev T : Format V
  T = Implicit n (Primitive t (Value k))

  next : (v : V) (rest : List ℕ) → Required T (rules_of old) (octets_left old) v rest → IsNextType t tagged
  next v rest z = unwanted t n old tagged q (next_of T (rules_of old) (octets_left old) v rest z)

  read : {after : Cursor} (result : Result X (ReadError BerError)) → ReadsValue value (k (rules_of tagged)) t tagged result after → ReadsField (Required T) value Never old result after
  read result h = implicit_read k q h

  value_next : (result : Result X (ReadError BerError)) → old.implicit ≡ None → ReadsOr value (k (rules_of tagged)) t d tagged result new → ReadsNext (Default T (value d)) value Never old result new
  unfolding Default
  value_next (Ok x) fresh (inl (absent, same, moved)) = let s = stays n old tagged new q moved in record {
    found = (inl ((λ z. absent (unwanted t n old tagged q z)), ap value same, s.0), s.1);
    only = λ v rest z. elim z [ inl y ↦ (ap value same ∙ sym y.1, sym s.0 ∙ y.2) | inr y ↦ absurd (absent (next v rest y.0)) ];
  }
  value_next (Ok x) fresh (inr (present, h, other)) = let r = read (Ok x) h fresh in record {
    found = (inr (r.found.0, λ e. λ z. other (same_rules n old tagged q ∙ e) (one x d z)), r.found.1);
    only = λ v rest z. elim z [ inl y ↦ absurd (y.0 (wanted t n old tagged q present)) | inr y ↦ r.only v rest y.0 ];
  }
  value_next (Err e) fresh (present, inl h) = let r = read (Err e) h fresh in record {
    found = tt;
    only = λ v rest z. elim z [ inl y ↦ absurd (y.0 (wanted t n old tagged q present)) | inr y ↦ r.only v rest y.0 ];
  }
  value_next (Err e) fresh (present, inr (der, later, h, told, moved)) = let r = read (Ok d) h fresh in record {
    found = tt;
    only = λ v rest z. elim z [ inl y ↦ absurd (y.0 (wanted t n old tagged q present)) | inr y ↦ absurd (y.1 (sym (same_rules n old tagged q) ∙ der) (sym (r.only v rest y.0).0)) ];
  }

one_number : (a b : ℕ) → pos a ≡ pos b → a ≡ b
one_number a b e = cc

pub implicit_number_or_read : (d : ℕ) {n : ℕ} {old tagged new : Cursor} {result : Result ℕ (ReadError BerError)} → IsTagged ContextSpecific n old tagged
    → ReadsOr pos (numbers (rules_of tagged) (unsigned 32)) 2 d tagged result new → ReadsField (Default (Implicit n (Number (unsigned 32))) (pos d)) pos Never old result new
implicit_number_or_read d {n = n} {old = old} {tagged = tagged} {new = new} {result = result} q h fresh =
    value_next pos one_number (λ r. numbers r (unsigned 32)) 2 d n old tagged new q result fresh h

pub implicit_boolean_or_read : (d : Bool) {n : ℕ} {old tagged new : Cursor} {result : Result Bool (ReadError BerError)} → IsTagged ContextSpecific n old tagged
    → ReadsOr (λ v. v) (booleans (rules_of tagged)) 1 d tagged result new → ReadsField (Default (Implicit n Boolean) d) (λ v. v) Never old result new
implicit_boolean_or_read d {n = n} {old = old} {tagged = tagged} {new = new} {result = result} q h fresh = value_next (λ v. v) (λ a b e. e) booleans 1 d n old tagged new q result fresh h
