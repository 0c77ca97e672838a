-- Spans that are recorded of elements.
use Rattle.std.proofs.Common.{◌≡◌, ℕ, ◌+◌, ◌-◌, ◌≤◌, List, [], ◌∷◌, ◌++◌, length, refl, sym, ap, subst, ◌∙◌, arith}
use Rattle.std.proofs.Common.{append_assoc, append-nil, length-append}
use Rattle.der_base.specs.declared.header.Header.{Header}
use Rattle.der_base.specs.declared.header.Length.{Length}
use Rattle.der_base.specs.declared.header.Length.TheVariants.{Definite, Indefinite}
use Rattle.der_base.specs.declared.spans.Span.{Span}
use Rattle.der_base.specs.Content.{BeginsWithContent}
use Rattle.der_base.specs.Inner.Framed.{AreElements, no_elements, elements}
use Rattle.der_base.specs.Header.{class_of, is_constructed, number_of, length_of}
use Rattle.der_base.specs.Headers.{ReadsHeader}
use Rattle.der_base.specs.Inner.Spans.{IsSpan, AreSpans, no_spans, closed_span, open_span, AreInside, RecordsElement}
use Rattle.der_base.specs.Inner.Spans.{open_octets, span_octets}
use Rattle.der_base.specs.Spelling.{end_marker}
use Rattle.der_base.proofs.Framing.Framed.{element_more}
use Rattle.der_base.proofs.Framing.FramingLists.{element_from, header_takes_two}
use Rattle.der_base.proofs.Framing.RawLists.{tail_more}

-- the octets that spans are of are elements
pub spans_are_elements : {ss : List Span} {w : List ℕ} {k : ℕ} → AreSpans ss w k → AreElements w k
spans_are_elements no_spans = no_elements
spans_are_elements (closed_span s n after b rest is l z r q d) = elements is.element is.other (spans_are_elements r) d
spans_are_elements (open_span s inside after b rest is l z v r q d) =
    elements is.element is.other (spans_are_elements r) d

-- spans behind spans
pub spans_append : {ss ts : List Span} {u x : List ℕ} {k : ℕ} → AreSpans ss u k → AreSpans ts x k
    → AreSpans (ss ++ ts) (u ++ x) k
spans_append no_spans h = h
spans_append {ts = ts} {u = u} {x = x} (closed_span s n after b rest is l z r q d) h =
    closed_span s n (after ++ ts) b (rest ++ x) is l z (spans_append r h) (ap (λ v. v ++ ts) q) (tail_more b rest u x d)
spans_append {ts = ts} {u = u} {x = x} (open_span s inside after b rest is l z v r q d) h =
    open_span s inside (after ++ ts) b (rest ++ x) is l z v (spans_append r h)
    (ap (λ v. v ++ ts) q ∙ append_assoc (s ∷ inside) after ts) (tail_more b rest u x d)

-- the spans of one element
one_span : (s : Span) (inside : List Span) (b : List ℕ) (k : ℕ) (l : Length) → length_of s.element.header ≡ l
    → IsSpan s b k → s.inside ≡ length inside → AreInside l inside s.element.bytes.now (k - 1)
    → AreSpans (s ∷ inside) b k
one_span s inside b k (Definite n) e is z r =
    closed_span s n [] b [] is e (z ∙ ap length r) no_spans (ap (λ v. s ∷ v) r) (sym (append-nil b))
one_span s inside b k Indefinite e is z r = open_span s inside [] b [] is e z r no_spans
    (sym (append-nil (s ∷ inside))) (sym (append-nil b))

-- one more element behind those that were recorded
pub one_more_span : (i rest behind after u : List ℕ) (ss added old items new : List Span) (k : ℕ) (h : Header) → 1 ≤ k
    → AreSpans ss u k → i ≡ u ++ rest → ReadsHeader rest h behind → RecordsElement h behind k added after
    → ((x : List ℕ) → ¬ (rest ≡ end_marker ++ x)) → items ≡ old ++ ss → new ≡ items ++ added
    → (u' : List ℕ) × (ss' : List Span) × AreSpans ss' u' k × (i ≡ u' ++ after) × (new ≡ old ++ ss')
one_more_span i rest behind after u ss added old items new k h h1 hu e g r n so_far pushed =
    let s = r.span in
    let x = s.element.header in
    let w = s.element.bytes.now in
    let eh = sym r.header in
    let head = subst (λ y. ReadsHeader rest y behind) eh g in
    let content = subst (λ y. BeginsWithContent behind (length_of y) k w after) eh r.content in
    let recorded = subst (λ y. AreInside (length_of y) r.inside w (k - 1)) eh r.recorded in
    let b = element_from rest behind w after k (class_of x) (is_constructed x) (number_of x)
    (length_of x) h1 head.begins content in
    let is : IsSpan s b.0 k = record {
      element = b.1;
      raw_tag = head.raw_tag;
      other = λ z. n after (b.2 ∙ ap (λ v. v ++ after) z);
    } in
    let one = one_span s r.inside b.0 k (length_of x) refl is r.number recorded in (
      u ++ b.0,
      ss ++ added,
      subst (λ v. AreSpans (ss ++ v) (u ++ b.0) k) (sym r.spans) (spans_append hu one),
      e ∙ ap (λ v. u ++ v) b.2 ∙ sym (append_assoc u b.0 after),
      pushed ∙ ap (λ v. v ++ added) so_far ∙ append_assoc old ss added,
    )

-- octets

pub span_octets_append : (ss ts : List Span) → span_octets (ss ++ ts) ≡ span_octets ss + span_octets ts
span_octets_append [] ts = omega arith
span_octets_append (s ∷ ss) ts = omega (arith, span_octets_append ss ts)

-- an element of definite length takes the octets of its header, those of its content, and what follows
pub definite_octets : (i behind w rest : List ℕ) (h : Header) (n : ℕ) → ReadsHeader i h behind → length_of h ≡ Definite n
    → BeginsWithContent behind (Definite n) 0 w rest → open_octets (length_of h) w + length rest + 2 ≤ length i
definite_octets i behind w rest h n r l f =
    let two = header_takes_two i behind _ _ _ _ r.begins in
    let unread : open_octets (length_of h) w ≡ length w = ap (λ v. open_octets v w) l in
    omega (arith, two, unread, ap length f.1, length-append w rest)

-- a greater budget

pub spans_more : {ss : List Span} {w : List ℕ} {k : ℕ} (m : ℕ) → k ≤ m → AreSpans ss w k → AreSpans ss w m
spans_more m le no_spans = no_spans
spans_more m le (closed_span s n after b rest is l z r q d) =
    closed_span s n after b rest (record {
      element = element_more m le is.element;
      raw_tag = is.raw_tag;
      other = is.other;
    }) l z (spans_more m le r) q d
spans_more m le (open_span s inside after b rest is l z v r q d) =
    open_span s inside after b rest (record {
      element = element_more m le is.element;
      raw_tag = is.raw_tag;
      other = is.other;
    }) l z (spans_more (m - 1) (omega (arith, le)) v) (spans_more m le r) q d

pub inside_more : {k : ℕ} (l : Length) (ss : List Span) (w : List ℕ) (m : ℕ) → k ≤ m → AreInside l ss w k
    → AreInside l ss w m
inside_more (Definite n) ss w m le r = r
inside_more Indefinite ss w m le r = spans_more m le r

-- the first of spans: its element, and where those behind that go on
pub record FirstSpan (s : Span) (more : List Span) (w : List ℕ) (k : ℕ) : Type 0 where
  pub octets : List ℕ
  pub rest : List ℕ
  pub span : IsSpan s octets k
  pub parts : w ≡ octets ++ rest
  pub inside : List Span
  pub after : List Span
  pub spans : more ≡ inside ++ after
  pub number : s.inside ≡ length inside
  pub recorded : AreInside (length_of s.element.header) inside s.element.bytes.now k
  pub following : AreSpans after rest k

cons_same : {x y : Span} {xs ys : List Span} → x ∷ xs ≡ y ∷ ys → (x ≡ y) × (xs ≡ ys)
cons_same e = (cc, cc)

pub first_span : {ts : List Span} {w : List ℕ} {k : ℕ} (s : Span) (more : List Span) → ts ≡ s ∷ more → AreSpans ts w k
    → FirstSpan s more w k
first_span s more e no_spans = absurd (cc)
first_span {k = k} s more e (closed_span x n after b rest is l z r q d) =
    let same = cons_same (sym q ∙ e) in
    let h : length_of s.element.header ≡ Definite n = subst (λ v. length_of v.element.header ≡ Definite n) same.0 l in
    record {
      octets = b;
      rest = rest;
      span = subst (λ v. IsSpan v b k) same.0 is;
      parts = d;
      inside = [];
      after = after;
      spans = sym same.1;
      number = subst (λ v. v.inside ≡ 0) same.0 z;
      recorded = subst (λ v. AreInside v [] s.element.bytes.now k) (sym h) refl;
      following = r;
    }
first_span {k = k} s more e (open_span x inside after b rest is l z v r q d) =
    let same = cons_same (sym q ∙ e) in
    let h : length_of s.element.header ≡ Indefinite = subst (λ v. length_of v.element.header ≡ Indefinite) same.0 l in
    let u = subst (λ v. AreSpans inside v.element.bytes.now (k - 1)) same.0 v in
    record {
      octets = b;
      rest = rest;
      span = subst (λ v. IsSpan v b k) same.0 is;
      parts = d;
      inside = inside;
      after = after;
      spans = sym same.1;
      number = subst (λ v. v.inside ≡ length inside) same.0 z;
      recorded = subst (λ v. AreInside v inside s.element.bytes.now k) (sym h) (spans_more k (omega arith) u);
      following = r;
    }

pub none_left : {ss : List Span} {w : List ℕ} {k : ℕ} → AreSpans ss w k → ss ≡ [] → w ≡ []
none_left no_spans e = refl
none_left (closed_span s n after b rest is l z r q d) e = absurd (cc)
none_left (open_span s inside after b rest is l z v r q d) e = absurd (cc)
