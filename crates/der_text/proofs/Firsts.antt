-- The first element of octets: what its header says is found, and nothing else is.
use Rattle.std.proofs.Common.{◌≡◌, ℕ, ◌-◌, ◌<◌, List, [], ◌∷◌, ◌++◌, length, take, drop, refl, sym, ap, ◌∙◌, subst, arith, length-append}
use Rattle.std.specs.Prelude.{Bool, Option, Some, None, MatchOption, IfSome, Ok, Err}
use Rattle.std.specs.Borrow.{Bor}
use Rattle.std.proofs.Math.Seq.{drop-append_seam, take-append_seam}
use Rattle.der_base.specs.declared.error.Err.{Err as Refused}
use Rattle.der_base.specs.declared.error.Err.TheVariants.{Error, Failure, Incomplete, OutOfMemory}
use Rattle.der_base.specs.declared.error.Error.{Error as BerError}
use Rattle.der_base.specs.declared.error.Needed.TheVariants.{Size, Unknown}
use Rattle.der_base.specs.declared.header.Class.{Class}
use Rattle.der_base.specs.declared.header.Header.{Header}
use Rattle.der_base.specs.declared.header.Length.{Length}
use Rattle.der_base.specs.declared.header.Length.TheVariants.{Definite, Indefinite}
use Rattle.der_base.proofs.Octets.Numbers.{identifier_long_length, identifier_short_length}
use Rattle.der_base.specs.Answer.{AnswersOkOr, MatchAnswer}
use Rattle.der_base.specs.Header.{class_of, is_constructed, length_of, number_of, raw_tag_of}
use Rattle.der_base.specs.Fault.{BerHeaderRefuses}
use Rattle.der_base.specs.Headers.{AnswersBerHeader, BerHeaderLacks, BeginsWithHeader, HeaderAnswer, LeadingHeader, ReadsHeader, leading_header}
use Rattle.der_base.specs.LengthOctets.{BeginsWithLength}
use Rattle.der_base.specs.Octets.{identifier}
use Rattle.der_text.specs.declared.element.Element.{Element}
use Rattle.der_text.specs.declared.item.Form.{Form}
use Rattle.der_text.specs.Looks.{EndsContent, HasFirst, IsContent, IsElementOf, IsFirst, IsOnlyFirst}

-- the header that an element begins with
abbrev header_of : Element → LeadingHeader
header_of x = record {
  class = class_of x.header;
  constructed = is_constructed x.header;
  number = number_of x.header;
  length = length_of x.header;
  rest = x.content.now ++ x.rest.now;
}

never : (P : Bor (List ℕ) × Header → Type 0) (e : Refused BerError) → AnswersOkOr ⊥ (Err e) P → ⊥
never P (Error e) h = h
never P (Incomplete (Size n)) h = h
never P (Incomplete Unknown) h = h
never P (Failure e) h = h
never P OutOfMemory h = h

pub none_is_first : (w : List ℕ) (r : HeaderAnswer) (e : Refused BerError) → r ≡ Err e → AnswersBerHeader w r → HasFirst w → ⊥
none_is_first w r e q a h =
    let P : HeaderAnswer → Type 0 = λ s. AnswersOkOr ⊥ s (λ x. leading_header x ≡ header_of h.0) in
    never (λ x. leading_header x ≡ header_of h.0) e (subst P q (a.only (header_of h.0) h.1.header))

-- the octets of a length are between those of the identifier and what is behind
between : (w id s behind : List ℕ) → w ≡ id ++ (s ++ behind)
    → take (length w - length behind - length id) (drop (length id) w) ≡ s
between w id s behind e =
    let n : length w - length behind - length id ≡ length s =
    omega (arith, ap length e, length-append id (s ++ behind), length-append s behind) in
    ap (λ k. take k (drop (length id) w)) n ∙ ap (λ x. take (length s) (drop (length id) x)) e
    ∙ ap (take (length s)) (drop-append_seam id (s ++ behind)) ∙ take-append_seam s behind

length_before : (s : List ℕ) (p : Bool) (l : Length) (rest : List ℕ) → BeginsWithLength s p l rest → (w : List ℕ) × (s ≡ w ++ rest)
length_before s p (Definite n) rest h = (h.0, h.2)
length_before s p Indefinite rest h = (128 ∷ [], h.1)

some_octet : (c : Class) (p : Bool) (t : ℕ) → 0 < length (identifier c p t)
some_octet c p t = grind (arith, identifier_short_length c p t, identifier_long_length c p t)

is_some : {a b : List ℕ} → Some a ≡ Some b → a ≡ b
is_some {a = a} e = ap (λ x. elim x [ Some y ↦ y | None ↦ a ]) e

-- what is found is the first element
pub found_first : (w : List ℕ) (h : Header) (id behind : List ℕ) → ReadsHeader w h behind → raw_tag_of h ≡ Some id
    → (x : Element)
    → IsElementOf h id (take (length w - length behind - length id) (drop (length id) w)) behind x → IsFirst w x
found_first w h id behind a tag x e =
    let begins = a.begins in
    let same : id ≡ identifier (class_of h) (is_constructed h) (number_of h) = is_some (sym tag ∙ a.raw_tag) in
    let l = length_before begins.following (is_constructed h) (length_of h) behind begins.length in
    let whole : w ≡ id ++ (l.0 ++ behind) =
    begins.octets ∙ ap (λ y. identifier (class_of h) (is_constructed h) (number_of h) ++ y) l.1
    ∙ ap (λ y. y ++ (l.0 ++ behind)) (sym same) in
    let size = between w id l.0 behind whole in
    let P : Header → Type 0 = λ y. BeginsWithHeader w (class_of y) (is_constructed y) (number_of y) (length_of y) (x.content.now ++ x.rest.now) in
    let Q : List ℕ → Type 0 = λ y. BeginsWithHeader w (class_of h) (is_constructed h) (number_of h) (length_of h) y in
    let R : Header → Type 0 = λ y. EndsContent (length_of y) x.content.now x.rest.now in
    let S : Header → Type 0 = λ y. x.identifier.now ≡ identifier (class_of y) (is_constructed y) (number_of y) in
    let T : List ℕ → Type 0 = λ y. 0 < length y in
    record {
      parts = record {
        whole = whole ∙ ap (λ y. y ++ (l.0 ++ behind)) (sym e.identifier)
            ∙ ap (λ y. x.identifier.now ++ (y ++ behind)) (sym size ∙ sym e.length)
            ∙ ap (λ y. x.identifier.now ++ (x.length.now ++ y)) e.content.whole;
        some = subst T (sym same ∙ sym e.identifier) (some_octet (class_of h) (is_constructed h) (number_of h));
        form = e.content.form ∙ ap Some (sym e.length);
      };
      header = subst P (sym e.header) (subst Q e.content.whole begins);
      identifier = subst S (sym e.header) (e.identifier ∙ same);
      ends = subst R (sym e.header) e.content.ends;
    }

-- what is first has the content that is looked for
pub first_has : (w : List ℕ) (h : Header) (id behind : List ℕ) (r : HeaderAnswer) (y : Bor (List ℕ)) → r ≡ Ok (y, h) → y.now ≡ behind
    → AnswersBerHeader w r → ReadsHeader w h behind → raw_tag_of h ≡ Some id → (x : Element) → IsFirst w x
    → IsContent (length_of h) (take (length w - length behind - length id) (drop (length id) w)) behind x.content.now x.rest.now x.form
first_has w h id behind r y is at a b tag x f =
    let P : HeaderAnswer → Type 0 = λ s. AnswersOkOr ⊥ s (λ z. leading_header z ≡ header_of x) in
    let same : leading_header (y, h) ≡ header_of x = subst P is (a.only (header_of x) f.header) in
    let whole : behind ≡ x.content.now ++ x.rest.now = sym at ∙ ap (λ v. v.rest) same in
    let ids : id ≡ x.identifier.now =
    is_some (sym tag ∙ b.raw_tag) ∙ ap (λ v. identifier v.class v.constructed v.number) same ∙ sym f.identifier in
    let parts : w ≡ id ++ (x.length.now ++ behind) =
    f.parts.whole ∙ ap (λ z. z ++ (x.length.now ++ (x.content.now ++ x.rest.now))) (sym ids)
    ∙ ap (λ z. id ++ (x.length.now ++ z)) (sym whole) in
    let Q : Length → Type 0 = λ l. EndsContent l x.content.now x.rest.now in
    record {
      whole = whole;
      ends = subst Q (sym (ap (λ v. v.length) same)) f.ends;
      form = f.parts.form ∙ ap Some (sym (between w id x.length.now behind parts));
    }

pub split_first : (w id : List ℕ) (h : Header) (y : Bor (List ℕ)) (r : HeaderAnswer) → r ≡ Ok (y, h) → AnswersBerHeader w r
    → raw_tag_of h ≡ Some id → (found : Option Element)
    → MatchOption found
    ((content rest : List ℕ) (f : Form)
    → ¬ IsContent (length_of h) (take (length w - length y.now - length id) (drop (length id) w)) y.now content rest f)
    (IsElementOf h id (take (length w - length y.now - length id) (drop (length id) w)) y.now)
    → MatchOption found (¬ HasFirst w) (IsFirst w)
split_first w id h y r is a tag None n =
    let P : HeaderAnswer → Type 0 = λ s. MatchAnswer s (λ x. ReadsHeader w x.1 x.0.now) (BerHeaderRefuses w) (BerHeaderLacks w) ⊥ in
    λ e. n e.0.content.now e.0.rest.now e.0.form (first_has w h id y.now r y is refl a (subst P is a.found) tag e.0 e.1)
split_first w id h y r is a tag (Some x) n =
    let P : HeaderAnswer → Type 0 = λ s. MatchAnswer s (λ x. ReadsHeader w x.1 x.0.now) (BerHeaderRefuses w) (BerHeaderLacks w) ⊥ in
    found_first w h id y.now (subst P is a.found) tag x n

-- a content in front of octets ends in one place
one_rest : {w behind a b c d : List ℕ} {f g : Form} (l : Length) → IsContent l w behind a b f → IsContent l w behind c d g → b ≡ d
one_rest {behind = behind} {a = a} {b = b} {c = c} {d = d} (Definite n) x y =
    sym (drop-append_seam a b) ∙ ap (λ k. drop k (a ++ b)) (x.ends ∙ sym y.ends) ∙ ap (drop (length c)) (sym x.whole ∙ y.whole)
    ∙ drop-append_seam c d
one_rest Indefinite x y = x.ends ∙ sym y.ends

pub split_only : (w id : List ℕ) (h : Header) (y : Bor (List ℕ)) (r : HeaderAnswer) → r ≡ Ok (y, h) → AnswersBerHeader w r
    → raw_tag_of h ≡ Some id → (found : Option Element)
    → MatchOption found
    ((content rest : List ℕ) (f : Form)
    → ¬ IsContent (length_of h) (take (length w - length y.now - length id) (drop (length id) w)) y.now content rest f)
    (IsElementOf h id (take (length w - length y.now - length id) (drop (length id) w)) y.now)
    → IfSome found (IsOnlyFirst w)
split_only w id h y r is a tag None n = tt
split_only w id h y r is a tag (Some x) n =
    let P : HeaderAnswer → Type 0 = λ s. MatchAnswer s (λ x. ReadsHeader w x.1 x.0.now) (BerHeaderRefuses w) (BerHeaderLacks w) ⊥ in
    let b = subst P is a.found in
    λ z f.
    let Q : HeaderAnswer → Type 0 = λ s. AnswersOkOr ⊥ s (λ u. leading_header u ≡ header_of z) in
    let same : leading_header (y, h) ≡ header_of z = subst Q is (a.only (header_of z) f.header) in (
      one_rest (length_of h) (first_has w h id y.now r y is refl a b tag z f) n.content,
      f.identifier ∙ ap (λ v. identifier v.class v.constructed v.number) (sym same) ∙ is_some (sym b.raw_tag ∙ tag) ∙ sym n.identifier,
    )
