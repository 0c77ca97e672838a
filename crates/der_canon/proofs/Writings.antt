-- One more piece that is written, and the end.
use Rattle.std.proofs.Common.{◌≡◌, ℕ, true, false, not, Option, List, [], ◌∷◌, ◌++◌, length, take, refl, sym, ap, subst, ◌∙◌, inl, inr, arith}
use Rattle.std.proofs.lemmas.Bool.{cases_Bool}
use Rattle.der_base.specs.declared.rules.Rules.TheVariants.{Ber, Der}
use Rattle.der_base.specs.declared.header.Class.TheVariants.{Universal}
use Rattle.der_contents.specs.ContentRules.{IsContent}
use Rattle.der_base.specs.Encoding.{element}
use Rattle.der_base.specs.Octets.{identifier}
use Rattle.der_elements.specs.declared.element.Element.{Element}
use Rattle.der_elements.specs.Visits.{Visited, Visits}
use Rattle.der_elements.specs.declared.cause.Cause.TheVariants.{Value}
use Rattle.der_elements.specs.declared.walk.Walk.{Walk}
use Rattle.der_elements.specs.Walked.{HasOctets, HasVisited, visited_of}
use Rattle.der_canon.specs.declared.error.NotCanonical.{NotCanonical}
use Rattle.der_canon.specs.declared.piece.Parts.{Parts}
use Rattle.der_canon.specs.declared.piece.Piece.{Piece}
use Rattle.der_canon.specs.declared.piece.Pieces.{Pieces}
use Rattle.der_canon.specs.declared.strings.Broken.{Broken}
use Rattle.der_canon.specs.declared.strings.InParts.{InParts}
use Rattle.der_canon.specs.declared.writer.Writer.{Writer}
use Rattle.der_canon.specs.Contents.{AreWritten, Contents, KeepsIn, Writes, WritesAll, no_contents, start_of, with_part_of}
use Rattle.der_canon.specs.Contents.{part as writes_part, primitive as writes_primitive, constructed as writes_constructed}
use Rattle.der_canon.specs.Errors.{IsErrorOfString}
use Rattle.der_canon.specs.Pieces.{IsForm, KeepsForm, depth_of, has_header}
use Rattle.der_canon.specs.Same.{content_of, is_in_parts, is_part, no_extras, parts_of}
use Rattle.der_canon.specs.Strings.{HasString, IsBroken, IsBrokenIn, IsStringIn}
use Rattle.der_canon.specs.Values.{content_in_der, value_in_der}
use Rattle.der_canon.specs.Writing.{HasCompleted, HasWritten, PutsElement, PutsPart, PutsPiece, WritesInput}
use Rattle.der_canon.specs.Writing.{primitive, constructed, primitive_part, constructed_part}
use Rattle.der_canon.proofs.Completions.{few_left}
use Rattle.der_canon.proofs.Steps.{not_false, not_true, octets_of}
use Rattle.der_canon.proofs.JoinedStrings.{broken_string, ends_at, string_element, string_part}

-- after the contents c the piece is written, and more parts of the string at this depth may follow
abbrev pub WritesOn : (Contents → Type 0) → List ℕ → Contents → Visited → Option ℕ → Writer → List ℕ → Type 0
WritesOn P i c v n a out = (t : Contents) × Writes P i c v t × (t.string ≡ n) × HasWritten t.around t.here a out

part_on : (P : Contents → Type 0) (i : List ℕ) (c : Contents) (e : Element) (a : Writer) (out : List ℕ) → is_part c.string (visited_of e) ≡ true → HasOctets i e
    → PutsPart e c.around c.here a out → WritesOn P i c (visited_of e) c.string a out
part_on P i c e a out inner g (primitive_part w con is h) =
    let here : with_part_of false e.number w.now c.here ≡ with_part_of e.constructed e.number (content_of i (visited_of e)) c.here =
    ap (λ q. with_part_of q e.number w.now c.here) (sym con) ∙ ap (λ z. with_part_of e.constructed e.number z c.here) (sym (octets_of i e w g is)) in
    (record { string = c.string; number = c.number; around = c.around; here = with_part_of false e.number w.now c.here }, writes_part inner refl refl here refl, refl, h)
part_on P i c e a out inner g (constructed_part con h) =
    (c, writes_part inner refl refl (ap (λ q. with_part_of q e.number (content_of i (visited_of e)) c.here) (sym con)) refl, refl, h)

element_on : (P : Contents → Type 0) (i : List ℕ) (c : Contents) (e : Element) (a : Writer) (out : List ℕ) → is_part c.string (visited_of e) ≡ false → HasOctets i e
    → (e.constructed ≡ false → e.class ≡ Universal → IsContent Der e.number (content_in_der e.number (content_of i (visited_of e)))) → P c
    → PutsElement e c.around c.here a out → WritesOn P i c (visited_of e) (parts_of (visited_of e)) a out
element_on P i c e a out free g form kept (primitive ys z w con is comp h) =
    let x = value_in_der e.class e.number w.now in (
      record { string = parts_of (visited_of e); number = e.number; around = ys; here = z ++ element e.class false e.number x },
      writes_primitive z free refl comp con (ap (λ o. z ++ element e.class false e.number (value_in_der e.class e.number o)) (sym (octets_of i e w g is))) (form con) kept,
      refl,
      h,
    )
element_on P i c e a out free g form kept (constructed gs z con comp h) =
    let v = visited_of e in (
      record { string = parts_of v; number = e.number; around = (z ++ identifier e.class (not (is_in_parts v)) e.number) ∷ gs; here = start_of v },
      writes_constructed gs z free refl comp con refl refl refl kept,
      refl,
      h,
    )

pub piece_on : (P : Contents → Type 0) (i : List ℕ) (s : Option Parts) (c : Contents) (x : Piece) (p : Pieces) (a : Writer) (out : List ℕ) → c.string ≡ depth_of s → HasOctets i x.element
    → IsForm s (visited_of x.element) x.form p.parts → KeepsForm i (visited_of x.element) x.form → (has_header x.form ≡ true → P c) → PutsPiece x c.around c.here a out → WritesOn P i c (visited_of x.element) (depth_of p.parts) a out
piece_on P i s c x p a out same g f form kept (inl (plain, puts)) =
    let v = visited_of x.element in
    let e : is_part (depth_of s) v ≡ true = not_false (is_part (depth_of s) v) (sym f.header ∙ plain) in
    subst (λ n. WritesOn P i c v n a out) (same ∙ sym (f.part e)) (part_on P i c x.element a out (ap (λ n. is_part n v) same ∙ e) g puts)
piece_on P i s c x p a out same g f form kept (inr (headed, puts)) =
    let v = visited_of x.element in
    let e : is_part (depth_of s) v ≡ false = not_true (is_part (depth_of s) v) (sym f.header ∙ headed) in
    subst (λ n. WritesOn P i c v n a out) (sym (f.whole e)) (element_on P i c x.element a out (ap (λ n. is_part n v) same ∙ e) g (form headed) (kept headed) puts)

-- the string that goes on
pub string_on : (P : Contents → Type 0) (i : List ℕ) (vs : List Visited) (s : Option Parts) (c : Contents) (x : Piece) (p : Pieces) (t : Contents) (o n : Option InParts) → c.string ≡ depth_of s
    → IsForm s (visited_of x.element) x.form p.parts → Writes P i c (visited_of x.element) t → HasString i vs c o → (has_header x.form ≡ false → n ≡ o)
    → (has_header x.form ≡ true → IsStringIn (visited_of x.element) n) → HasString i (vs ++ visited_of x.element ∷ []) t n
string_on P i vs s c x p t o n same f one h kept begun =
    let v = visited_of x.element in
    elim (cases_Bool (has_header x.form)) [
      | inl headed ↦ string_element P i vs c v t n (ap (λ z. is_part z v) same ∙ not_true (is_part (depth_of s) v) (sym f.header ∙ headed)) one (begun headed)
      | inr plain ↦ subst (λ z. HasString i (vs ++ v ∷ []) t z) (sym (kept plain))
          (string_part P i vs c v t o h (ap (λ z. is_part z v) same ∙ not_false (is_part (depth_of s) v) (sym f.header ∙ plain)) one)
    ]

-- it is broken, where another element follows it
pub broken_on : (i : List ℕ) (vs : List Visited) (s : Option Parts) (c : Contents) (x : Piece) (p : Pieces) (o : Option InParts) (a : Writer) (out : List ℕ) (b : Broken) (w : Walk)
    → c.string ≡ depth_of s → IsForm s (visited_of x.element) x.form p.parts → has_header x.form ≡ true → HasVisited no_extras Ber i w (vs ++ visited_of x.element ∷ [])
    → HasString i vs c o → HasWritten c.around c.here a out → IsBrokenIn o a out b → IsBroken i b.offset b.error
broken_on i vs s c x p o a out b w same f headed visited h written broken =
    let v = visited_of x.element in
    broken_string i vs c o a out b h written broken
    (ends_at i vs c w v visited (ap (λ z. is_part z v) same ∙ not_true (is_part (depth_of s) v) (sym f.header ∙ headed)))

-- the error of a string
pub error_of : (i : List ℕ) (b : Broken) (e : NotCanonical) → IsBroken i b.offset b.error → e.offset ≡ b.offset → e.cause ≡ Value b.error → IsErrorOfString i e
error_of i b e broken place cause = inr (record { error = b.error; broken = subst (λ z. IsBroken i z b.error) (sym place) broken; cause = cause })

-- all are written
pub all_written : (room : ℕ) (i : List ℕ) (vs : List Visited) (t : Contents) (a : Writer) (out : List ℕ) → length out ≡ room → Visits no_extras Ber 101 0 0 i vs
    → WritesAll (KeepsIn room) i no_contents vs t → KeepsIn room t → HasCompleted 0 t.around t.here a out → WritesInput i out
all_written room i vs t a out size vis all kept ([], y, comp, h) = (y, subst (λ n. AreWritten (KeepsIn n) i y) (sym size) (vs, t, vis, all, comp, kept), λ fits. let q = h.held.0 fits in subst (λ n. take n out ≡ y) q.0 q.1)
all_written room i vs t a out size vis all kept (z ∷ zs, y, comp, h) = absurd (omega (arith, few_left 0 t.around (z ∷ zs) t.here y comp))
