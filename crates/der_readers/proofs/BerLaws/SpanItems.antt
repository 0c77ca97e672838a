-- The items of spans: the span at a place, the spans inside it, and what an item says of the octets.
use Rattle.std.proofs.Common.{◌≡◌, ◌≢◌, ℕ, ◌+◌, ◌-◌, ◌<◌, ◌≤◌, List, [], ◌∷◌, ◌++◌, length, length-append, drop, take}
use Rattle.std.proofs.Common.{refl, sym, ap, subst, ◌∙◌, arith, inl}
use Rattle.std.proofs.Math.ListN.{get_or}
use Rattle.std.proofs.lemmas.List.{drop_more, drop-drop, length-drop, take_at, take-append-drop}
use Rattle.std.proofs.Math.Seq.{drop-append_seam}
use Rattle.der_base.specs.declared.spans.Span.{Span}
use Rattle.der_base.specs.Header.{class_of, is_constructed, number_of, length_of}
use Rattle.der_base.specs.Fault.{ShowsFault}
use Rattle.der_base.specs.Refusal.{Refusal, max_depth}
use Rattle.der_base.specs.Inner.Spans.{IsSpan, AreSpans, AreInside, open_octets, span_octets}
use Rattle.der_base.specs.Spelling.{BeginsWithElement, form, framing_budget}
use Rattle.der_base.proofs.Framing.FramingLaws.{framed_begins, element_shorter}
use Rattle.der_values.proofs.LawsLaws.Answers.ItemAnswers.{some_octets, some_content}
use Rattle.der_base.proofs.Framing.Recording.{FirstSpan, first_span, span_octets_append}
use Rattle.der_base.proofs.Framing.FramedIsSpelling.{spells_then}
use Rattle.der_object.specs.declared.object.BerObject.{BerObject}
use Rattle.der_object.specs.declared.object.BerObjectContent.{BerObjectContent}
use Rattle.der_object.specs.HeaderFacts.{forms_of, inner_forms}
use Rattle.der_object.specs.View.{node_of, content_tree, trees}
use Rattle.der_readers.specs.Ber.BerReading.{ReadsBer, ContentRefuses}
use Rattle.der_readers.specs.Ber.Inner.ElementParts.{IsContentOf, ItemsRefuse}
use Rattle.der_readers.proofs.BerLaws.Items.{Read, read_more, content_refused}

-- the span at a place
pub next : (ss : List Span) (at : ℕ) (x : Span) (w : List ℕ) (k : ℕ) → at < length ss → AreSpans (drop at ss) w k
    → FirstSpan (get_or ss at x) (drop (at + 1) ss) w k
next ss at x w k lt h = first_span (get_or ss at x) (drop (at + 1) ss) (drop_more ss at x lt) h

-- those inside it end within the list
pub span_end : (ss : List Span) (at : ℕ) (x : Span) (w : List ℕ) (k : ℕ) → at < length ss → AreSpans (drop at ss) w k
    → at + 1 + (get_or ss at x).inside ≤ length ss
span_end ss at x w k lt h =
    let q = next ss at x w k lt h in
    let parts = ap length q.spans ∙ length-append q.inside q.after in
    omega (arith, lt, q.number, parts, length-drop (at + 1) ss)

taken : (ss : List Span) (at : ℕ) (x : Span) (w : List ℕ) (k : ℕ) (lt : at < length ss) (h : AreSpans (drop at ss) w k)
    → take (at + 1 + (get_or ss at x).inside - (at + 1)) (drop (at + 1) ss) ≡ (next ss at x w k lt h).inside
taken ss at x w k lt h =
    let q = next ss at x w k lt h in
    let n = at + 1 + (get_or ss at x).inside - (at + 1) in
    let l : length q.inside ≡ n = omega (arith, q.number) in
    ap (λ v. take n v) q.spans ∙ take_at q.inside q.after n l

pub span_inside : (ss : List Span) (at : ℕ) (x : Span) (w : List ℕ) (k : ℕ) → at < length ss → AreSpans (drop at ss) w k
    → AreInside (length_of (get_or ss at x).element.header)
    (take (at + 1 + (get_or ss at x).inside - (at + 1)) (drop (at + 1) ss)) (get_or ss at x).element.bytes.now k
span_inside ss at x w k lt h =
    let q = next ss at x w k lt h in
    let s = get_or ss at x in
    subst (λ v. AreInside (length_of s.element.header) v s.element.bytes.now k)
    (sym (taken ss at x w k lt h)) q.recorded

pub length_inside : (ss : List Span) (at : ℕ) (x : Span) (w : List ℕ) (k : ℕ) → at < length ss
    → AreSpans (drop at ss) w k
    → length (take (at + 1 + (get_or ss at x).inside - (at + 1)) (drop (at + 1) ss)) ≡ (get_or ss at x).inside
length_inside ss at x w k lt h = ap length (taken ss at x w k lt h) ∙ sym (next ss at x w k lt h).number

pub span_after : (ss : List Span) (at : ℕ) (x : Span) (w : List ℕ) (k : ℕ) (lt : at < length ss)
    (h : AreSpans (drop at ss) w k) → drop (at + 1 + (get_or ss at x).inside) ss ≡ (next ss at x w k lt h).after
span_after ss at x w k lt h =
    let q = next ss at x w k lt h in
    let i = (get_or ss at x).inside in
    sym (drop-drop i (at + 1) ss) ∙ ap (λ v. drop i v) q.spans ∙ ap (λ n. drop n (q.inside ++ q.after)) q.number
    ∙ drop-append_seam q.inside q.after

-- the octets that are left at a place, apart
pub octets_split : (ss : List Span) (at : ℕ) (x : Span) → at < length ss
    → span_octets (drop at ss)
    ≡ open_octets (length_of (get_or ss at x).element.header) (get_or ss at x).element.bytes.now
    + span_octets (take (at + 1 + (get_or ss at x).inside - (at + 1)) (drop (at + 1) ss))
    + span_octets (drop (at + 1 + (get_or ss at x).inside) ss)
octets_split ss at x lt =
    let s = get_or ss at x in
    let more = drop (at + 1) ss in
    let n = at + 1 + s.inside - (at + 1) in
    let e : n ≡ s.inside = omega arith in
    let whole = ap span_octets (drop_more ss at x lt) in
    let split = ap span_octets (sym (take-append-drop n more)) ∙ span_octets_append (take n more) (drop n more) in
    let behind = ap (λ m. span_octets (drop m more)) e ∙ ap span_octets (drop-drop s.inside (at + 1) ss) in
    omega (arith, whole, split, behind)

-- an element stands there
begins_at : (ss : List Span) (at : ℕ) (x : Span) (w : List ℕ) (lt : at < length ss)
    (h : AreSpans (drop at ss) w framing_budget)
    → let a = (get_or ss at x).element in let r = (next ss at x w framing_budget lt h).rest in
    BeginsWithElement w framing_budget (class_of a.header) (is_constructed a.header) (number_of a.header) a.bytes.now r
begins_at ss at x w lt h =
    let q = next ss at x w framing_budget lt h in
    let a = (get_or ss at x).element in
    subst (λ v. BeginsWithElement v framing_budget (class_of a.header) (is_constructed a.header)
    (number_of a.header) a.bytes.now q.rest) (sym q.parts) (framed_begins q.rest q.span.element)

pub some_left : (ss : List Span) (at : ℕ) (x : Span) (w : List ℕ) → at < length ss
    → AreSpans (drop at ss) w framing_budget → 0 < length w
some_left ss at x w lt h = omega (arith, element_shorter w framing_budget _ _ _ _ _ (begins_at ss at x w lt h))

-- what refuses it refuses the list
pub span_refused : (ss : List Span) (at : ℕ) (x : Span) (w rest : List ℕ) (os : List BerObject) (d : ℕ) (e : Refusal)
    → 1 ≤ d → at < length ss → Read w rest os d → AreSpans (drop at ss) rest framing_budget
    → (let a = (get_or ss at x).element in ContentRefuses (class_of a.header) (is_constructed a.header)
    (number_of a.header) a.bytes.now d e) → ItemsRefuse w d e
span_refused ss at x w rest os d e deep lt r h f =
    let q = next ss at x rest framing_budget lt h in
    let a = (get_or ss at x).element in
    let shows = content_refused d rest q.rest a.bytes.now (class_of a.header) (is_constructed a.header)
    (number_of a.header) e deep (begins_at ss at x rest lt h) f in
    (trees os, forms_of os, r.read, rest, r.parts, r.joins, (some_octets rest (some_left ss at x rest lt h), inl shows))

pub depth_refused : (ss : List Span) (at : ℕ) (x : Span) (w rest : List ℕ) (os : List BerObject) (d : ℕ) → d ≡ 0
    → at < length ss → Read w rest os d → AreSpans (drop at ss) rest framing_budget → ItemsRefuse w d max_depth
depth_refused ss at x w rest os d z lt r h = (
  trees os,
  forms_of os,
  r.read,
  rest,
  r.parts,
  r.joins,
  (some_octets rest (some_left ss at x rest lt h), inl (subst (λ n. ShowsFault n rest max_depth) (sym z) refl)),
)

pub some_items : (ss : List Span) (at : ℕ) (x : Span) (w rest : List ℕ) (os : List BerObject) (d : ℕ) → at < length ss
    → Read w rest os d → AreSpans (drop at ss) rest framing_budget → w ≢ []
some_items ss at x w rest os d lt r h = some_content w r.read rest r.parts (some_left ss at x rest lt h)

-- what is read of it is an object in front
span_read : (s : Span) (b rest i : List ℕ) (x : BerObjectContent) (d : ℕ) → IsSpan s b framing_budget → i ≡ b ++ rest
    → 1 ≤ d → IsContentOf s.element.bytes.now s.element.header x d
    → ReadsBer d i (record { header = s.element.header; content = x }) rest
span_read s b rest i x d is e deep k =
    let h = s.element.header in
    let w = s.element.bytes.now in
    record {
      spelling = b;
      octets = e;
      spells = spells_then (node_of h (content_tree x)) b (form (length_of h) (inner_forms x)) d framing_budget (
        deep,
        w,
        is.element,
        k.content,
      ) (w, is.element);
      headers = (record { raw_tag = is.raw_tag; kept = k.kept }, k.headers);
    }

pub one_more_item : (ss : List Span) (at : ℕ) (x : Span) (w rest : List ℕ) (os : List BerObject) (o : BerObject)
    (d : ℕ) → 1 ≤ d → at < length ss → Read w rest os d → AreSpans (drop at ss) rest framing_budget
    → o.header ≡ (get_or ss at x).element.header
    → IsContentOf (get_or ss at x).element.bytes.now (get_or ss at x).element.header o.content d
    → (rest' : List ℕ) × Read w rest' (os ++ o ∷ []) d
    × AreSpans (drop (at + 1 + (get_or ss at x).inside) ss) rest' framing_budget
one_more_item ss at x w rest os o d deep lt r h eh k =
    let q = next ss at x rest framing_budget lt h in
    let read = subst (λ y. ReadsBer d rest (record { header = y; content = o.content }) q.rest) (sym eh)
    (span_read (get_or ss at x) q.octets q.rest rest o.content d q.span q.parts deep k) in (
      q.rest,
      read_more w rest q.rest os o d r read,
      subst (λ v. AreSpans v q.rest framing_budget) (sym (span_after ss at x rest framing_budget lt h)) q.following,
    )

pub no_length : (ss : List Span) → length ss ≡ 0 → ss ≡ []
no_length [] z = refl
no_length (s ∷ ss) z = absurd (omega (arith, z))
