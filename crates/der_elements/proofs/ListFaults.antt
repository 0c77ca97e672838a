-- A list inside a string, and its first fault.
use Rattle.std.proofs.Common.{◌≡◌, ℕ, ◌+◌, ◌⊎◌, true, false, List, [], ◌∷◌, ◌++◌, length, Option, Some, None, Ok, Err, refl, sym, ap, subst, ◌∙◌, arith, append_assoc, append-nil, length-append, ⊎_elim}
use Rattle.std.specs.Borrow.{Bor}
use Rattle.std.specs.Prelude.{MatchOption}
use Rattle.std.proofs.lemmas.List.{append_cancel_left, nil_from_length}
use Rattle.der_base.specs.declared.error.Err.{Err as Refused}
use Rattle.der_base.specs.declared.error.Error.{Error as BerError}
use Rattle.der_base.specs.declared.header.Class.TheVariants.{Universal}
use Rattle.der_base.specs.declared.header.Header.{Header}
use Rattle.der_base.specs.declared.header.Length.TheVariants.{Definite}
use Rattle.der_base.specs.Headers.{LeadingHeader, leading_header}
use Rattle.der_base.specs.Octets.{identifier}
use Rattle.der_base.specs.Spelling.{end_marker}
use Rattle.der_base.proofs.Framing.Elements.{identifier_some}
use Rattle.der_base.specs.declared.rules.Rules.TheVariants.{Ber}
use Rattle.der_base.specs.Rules.{AnswersHeader, SpellsHeaderBy}
use Rattle.der_elements.specs.Check.Elements.{IsElement}
use Rattle.der_elements.specs.Check.Elements.{primitive as primitive_element, constructed as constructed_element, indefinite as indefinite_element}
use Rattle.der_elements.specs.Check.Readers.{BeginsWithElement}
use Rattle.der_elements.proofs.CheckLaws.HeadersBy.{header_read, header_refused, header_same}
use Rattle.der_elements.specs.declared.element.Element.{Element}
use Rattle.der_elements.specs.Inside.{FaultsAt, IsFaultInside, IsListFrame, IsListOf}
use Rattle.der_elements.specs.Reading.{FindsString, definite_of, octets_or_none, string_front_of}
use Rattle.der_elements.specs.Visits.{IsHeaderBy, IsStringFront}
use Rattle.der_elements.specs.Walked.{visited_of}
use Rattle.der_elements.proofs.Headers.{header_parts, spells_parts}
use Rattle.der_elements.proofs.OneVisit.{front_same, same_start}

-- headers

list_header : (x : List ℕ) (v : LeadingHeader) → SpellsHeaderBy Ber x v → v.class ≡ Universal → v.constructed ≡ true → ((v.number ≡ 16) ⊎ (v.number ≡ 17)) → v.length ≡ Definite (length v.rest) → IsListFrame x
list_header x v spells ec ep et el =
    let p = header_parts Ber x v spells in
    let is1 = subst (λ q. IsHeaderBy Ber q v.constructed v.number (definite_of v.length) p.octets) ec p.is in
    let is2 = subst (λ q. IsHeaderBy Ber Universal q v.number (definite_of v.length) p.octets) ep is1 in
    let is3 = subst (λ q. IsHeaderBy Ber Universal true v.number (definite_of q) p.octets) el is2 in
    (v.number, p.octets, v.rest, et, is3, p.split)

-- the header that was read is that of a list
pub frame_of : (x : List ℕ) (y : Bor (List ℕ) × Header) → AnswersHeader Ber x (Ok y) → IsListOf y.1 (length y.0.now) → IsListFrame x
frame_of x y a (ec, ep, et, el) = list_header x (leading_header y) (header_read Ber x y a) ec ep et el

frame_spells : (x : List ℕ) (t : ℕ) (h y : List ℕ) → IsHeaderBy Ber Universal true t (Some (length y)) h → x ≡ h ++ y
    → SpellsHeaderBy Ber x (record { class = Universal; constructed = true; number = t; length = Definite (length y); rest = y })
frame_spells x t h y is e = spells_parts Ber x Universal true t (length y) h y is e

pub of_frame : (x : List ℕ) (y : Bor (List ℕ) × Header) → AnswersHeader Ber x (Ok y) → IsListFrame x → IsListOf y.1 (length y.0.now)
of_frame x y a (t, h, w, et, is, e) =
    let v = leading_header y in
    let same : v ≡ record { class = Universal; constructed = true; number = t; length = Definite (length w); rest = w } = header_same Ber x v _ (header_read Ber x y a) (frame_spells x t h w is e) in
    let rest : y.0.now ≡ w = ap (λ (z : LeadingHeader). z.rest) same in (
      ap (λ (z : LeadingHeader). z.class) same,
      ap (λ (z : LeadingHeader). z.constructed) same,
      subst (λ n. (n ≡ 16) ⊎ (n ≡ 17)) (sym (ap (λ (z : LeadingHeader). z.number) same)) et,
      ap (λ (z : LeadingHeader). z.length) same ∙ ap (λ l. Definite (length l)) (sym rest),
    )

pub no_frame : (x : List ℕ) (e : Refused BerError) → AnswersHeader Ber x (Err e) → IsListFrame x → ⊥
no_frame x e a (t, h, w, et, is, q) = header_refused Ber x e _ a (frame_spells x t h w is q)

-- an element that begins a list by its header is all of it

whole_one : {d : ℕ} {b : List ℕ} (x rest : List ℕ) (t : ℕ) (h y : List ℕ) → IsHeaderBy Ber Universal true t (Some (length y)) h → x ≡ h ++ y → x ≡ b ++ rest → IsElement Ber d b → rest ≡ []
whole_one x rest t h y is ex eb (primitive_element c u s w l len e may) =
    let o = identifier c false u ++ s in
    let split : o ++ (w ++ rest) ≡ h ++ y = sym (append_assoc o w rest) ∙ ap (λ l. l ++ rest) (sym e) ∙ sym eb ∙ ex in
    let same = same_start Ber c Universal false true u t (Some (length w)) (Some (length y)) o h (w ++ rest) y (l, s, len, refl) is split in
    absurd (let p = same.constructed in cc)
whole_one x rest t h y is ex eb (constructed_element c u s w l len e may are) =
    let o = identifier c true u ++ s in
    let split : o ++ (w ++ rest) ≡ h ++ y = sym (append_assoc o w rest) ∙ ap (λ l. l ++ rest) (sym e) ∙ sym eb ∙ ex in
    let same = same_start Ber c Universal true true u t (Some (length w)) (Some (length y)) o h (w ++ rest) y (l, s, len, refl) is split in
    let size : length w ≡ length y = (let q = same.length in cc) in
    nil_from_length rest (omega (arith, size, ap length same.rest, length-append w rest))
whole_one x rest t h y is ex eb (indefinite_element c u w l ber e may are) =
    let o = identifier c true u ++ 128 ∷ [] in
    let z = w ++ end_marker in
    let split : o ++ (z ++ rest) ≡ h ++ y =
    sym (append_assoc o z rest) ∙ ap (λ l. l ++ rest) (sym (append_assoc o w end_marker) ∙ ap (λ l. l ++ end_marker) (append_assoc (identifier c true u) (128 ∷ []) w) ∙ sym e) ∙ sym eb ∙ ex in
    let same = same_start Ber c Universal true true u t None (Some (length y)) o h (z ++ rest) y (l, ber, refl, refl) is split in
    absurd (let q = same.length in cc)

-- no element begins a list that is none
pub begins_none : (x : List ℕ) → IsListFrame x → (IsElement Ber 101 x → ⊥) → (rest : List ℕ) → BeginsWithElement Ber 101 x rest → ⊥
begins_none x (t, h, y, et, is, e) never rest (b, eb, one) =
    let nothing = whole_one x rest t h y is e eb one in
    never (subst (λ l. IsElement Ber 101 l) (sym (eb ∙ ap (λ l. b ++ l) nothing ∙ append-nil b)) one)

-- strings

list_some : (x : List ℕ) → IsListFrame x → x ≡ [] → ⊥
list_some x (t, h, y, et, is, e) q = identifier_some Universal true t (is.1 ++ y) (sym q ∙ e ∙ ap (λ l. l ++ y) is.3 ∙ append_assoc (identifier Universal true t) is.1 y)

pub no_string : (e : Element) → FindsString e None → (n : ℕ) → IsFaultInside (visited_of e) (octets_or_none e.content) n → ⊥
no_string e f n (ep, ec, at) = of e.content (f ep ec) at
  where
    of : (c : Option (Bor (List ℕ))) → MatchOption c (Unit {0}) (λ w. (u v : List ℕ) → IsStringFront e.number u → w.now ≡ u ++ v → ⊥) → FaultsAt e.number (octets_or_none c) (e.offset + e.header) n → ⊥
    of (Some w) f at = f at.front at.list at.is_front at.parts
    of None f at = list_some at.list at.frame (nil_from_length at.list (omega (arith, ap length at.parts, length-append at.front at.list)))

-- what a string holds is found
pub list_found : (e : Element) (x : Bor (List ℕ)) → FindsString e (Some x) → (u : List ℕ) × IsStringFront e.number u × (octets_or_none e.content ≡ u ++ x.now)
list_found e x f = of e.content f.2
  where
    of : (c : Option (Bor (List ℕ))) → MatchOption c ⊥ (λ w. (u : List ℕ) × IsStringFront e.number u × (w.now ≡ u ++ x.now)) → (u : List ℕ) × IsStringFront e.number u × (octets_or_none c ≡ u ++ x.now)
    of (Some w) h = h
    of None h = absurd h

pub list_same : (e : Element) (x : Bor (List ℕ)) (n : ℕ) → FindsString e (Some x) → IsFaultInside (visited_of e) (octets_or_none e.content) n → IsListFrame x.now × (IsElement Ber 101 x.now → ⊥)
list_same e x n f (ep, ec, at) =
    let (u, front, parts) = list_found e x f in
    let fronts : u ≡ at.front = front_same e.number u at.front front at.is_front in
    let same : at.list ≡ x.now = append_cancel_left at.front at.list x.now (sym at.parts ∙ parts ∙ ap (λ l. l ++ x.now) fronts) in
    (subst IsListFrame same at.frame, λ one. at.no_element (subst (λ l. IsElement Ber 101 l) (sym same) one))

pub front_size : (t : ℕ) (u : List ℕ) → IsStringFront t u → string_front_of t ≡ length u
front_size t u f = ⊎_elim (λ z. ap string_front_of z.0 ∙ sym (ap length z.1)) (λ z. ap string_front_of z.0 ∙ sym (ap length z.1)) f
