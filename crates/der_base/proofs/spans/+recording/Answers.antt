use Rattle.std.proofs.Common.{◌≡◌, ◌++◌, ◌-◌, ◌∷◌, [], length, length-append, refl, sym, ap, subst, ◌∙◌, arith}
use Rattle.std.proofs.Common.{append_assoc, append-nil}
use Rattle.std.proofs.lemmas.List.{set_at}
use Rattle.std.proofs.lemmas.Result.{err_from_is_err_and}
use Rattle.der_base.specs.Header.{length_of}
use Rattle.der_base.specs.Inner.Spans.{no_spans, span_octets, open_octets, AreInside, RecordsElement}
use Rattle.der_base.specs.declared.spans.Span.{Span}
use Rattle.der_base.specs.declared.header.Length.TheVariants.{Definite, Indefinite}
use Rattle.der_base.specs.Content.{BeginsWithContent}
use lib.ListN.{set}
use Rattle.der_base.proofs.Framing.EndMarkerLoop.{header_answered, no_budget, ends_here, content_answered}
use Rattle.der_base.proofs.Framing.FramingLists.{header_takes_two}
use Rattle.der_base.proofs.Framing.Recording.{spans_are_elements, one_more_span, span_octets_append, definite_octets}
use Rattle.der_base.proofs.spans.+recording.Goals as goal

pub record_to_end_marker-elements-init : goal.record_to_end_marker-elements-init
record_to_end_marker-elements-init t c = record {
  found = ([], [], no_spans, refl, sym (append-nil c.args.spans.now.items));
  counted = omega arith;
  bounded = omega arith;
  bounded_ok = omega arith;
}

pub record_to_end_marker-returns-in_err-behind-clause-found :
    goal.record_to_end_marker-returns-in_err-behind-clause-found
record_to_end_marker-returns-in_err-behind-clause-found t c =
    let u = c.elements.invariant.found in
    let p = err_from_is_err_and c.from_residual.result c.from_residual.ensures.1 in
    rw (p.1, p.2) (header_answered c.elements.rest.now (spans_are_elements u.2) u.3 _ _ _ c.in_err-behind.field-0.0
    (omega arith) c.in_err-behind.ensures.exactly.found)

pub record_to_end_marker-returns-then-budget-eq1-clause-found :
    goal.record_to_end_marker-returns-then-budget-eq1-clause-found
record_to_end_marker-returns-then-budget-eq1-clause-found t c =
    let u = c.elements.invariant.found in
    no_budget _ (spans_are_elements u.2) u.3 c.in_ok-behind.ensures.exactly.found.begins (omega arith)

pub record_to_end_marker-returns-then-begins_with_end_marker-clause-found :
    goal.record_to_end_marker-returns-then-begins_with_end_marker-clause-found
record_to_end_marker-returns-then-begins_with_end_marker-clause-found t c =
    let u = c.elements.invariant.found in
    let e = ends_here _ (spans_are_elements u.2) u.3 c.in_ok-behind.ensures.exactly.found.begins (omega arith)
    c.if-begins_with_end_marker.ensures in
    rw e.0 (e.1, u.1, u.4, u.2)

pub record_to_end_marker-returns-in_err-rest-clause-found : goal.record_to_end_marker-returns-in_err-rest-clause-found
record_to_end_marker-returns-in_err-rest-clause-found t c =
    let u = c.elements.invariant.found in
    let p = err_from_is_err_and c.from_residual-in_err-rest.result c.from_residual-in_err-rest.ensures.1 in
    rw (p.1, p.2) (content_answered _ (spans_are_elements u.2) u.3 c.in_ok-behind.ensures.exactly.found.begins _ _ _ _
    c.in_err-rest.field-0.0 (omega arith) (λ m. m) c.in_err-rest.ensures.found)

pub record_to_end_marker-returns-in_err-rest-clause-bounded :
    goal.record_to_end_marker-returns-in_err-rest-clause-bounded
record_to_end_marker-returns-in_err-rest-clause-bounded t c =
    let s = header_takes_two _ _ _ _ _ _ c.in_ok-behind.ensures.exactly.found.begins in
    omega (arith, s, c.elements.invariant.bounded, c.in_ok-behind.ensures.counted, c.in_err-rest.ensures.bounded)

pub record_to_end_marker-returns-then-begins_with_end_marker-clause-bounded_ok :
    goal.record_to_end_marker-returns-then-begins_with_end_marker-clause-bounded_ok
record_to_end_marker-returns-then-begins_with_end_marker-clause-bounded_ok t c =
    let s = header_takes_two _ _ _ _ _ _ c.in_ok-behind.ensures.exactly.found.begins in
    omega (arith, s, c.elements.invariant.bounded_ok, c.in_ok-behind.ensures.counted)

pub record_to_end_marker-elements-preserved : goal.record_to_end_marker-elements-preserved
record_to_end_marker-elements-preserved t c =
    let v = c.elements.invariant in
    let u = v.found in
    let g = c.in_ok-behind.ensures.exactly.found in
    let counted = c.in_ok-behind.ensures.counted in
    let s = header_takes_two _ _ _ _ _ _ g.begins in
    let r = c.in_ok-rest.ensures in
    let more = ap span_octets r.found.1 ∙ span_octets_append c.elements.spans.items r.found.0 in record {
      found = one_more_span c.args.i.now c.elements.rest.now c.in_ok-behind.behind.now c.in_ok-rest.rest.now u.0 u.1
          r.found.0 _ _ _ (c.args.budget - 1) c.in_ok-behind.header
          (omega arith) u.2 u.3 g r.found.2 c.if-begins_with_end_marker.ensures u.4 r.found.1;
      counted = omega (arith, v.counted, counted, r.counted);
      bounded = omega (arith, s, more, v.bounded, counted, r.bounded_ok);
      bounded_ok = omega (arith, s, v.bounded_ok, counted, r.bounded_ok);
    }

-- one element of indefinite length

pub record_open-returns : goal.record_open-returns
record_open-returns t c =
    let items = c.args.spans.now.items in
    let h = c.args.header in
    let w = c.in_ok-rest.bytes in
    let r = c.in_ok-rest.ensures in
    let f = r.found in
    let p : Span = record { element = record { header = h; bytes = c.args.behind }; inside = 0 } in
    let s : Span = record {
      element = record { header = h; bytes = w };
      inside = c.len.result - c.len-place.result - 1;
    } in
    let e : length_of h ≡ Indefinite = c.requires.open in
    let pushed = c.in_ok-push.ensures.items in
    let whole : c.record_to_end_marker.new.spans.items ≡ items ++ p ∷ f.1 =
    f.2 ∙ ap (λ v. v ++ f.1) pushed ∙ append_assoc items (p ∷ []) f.1 in
    let place : length items ≡ c.len-place.result = sym c.args.spans.now.ok.0 ∙ sym c.len-place.ensures in
    let new = ap (λ v. set v c.len-place.result s) whole ∙ set_at items p f.1 s c.len-place.result place in record {
      found = (
        s ∷ f.1,
        new,
        record {
          span = s;
          inside = f.1;
          spans = refl;
          header = refl;
          number = omega (
            arith,
            c.len.ensures,
            c.record_to_end_marker.new.spans.ok.0,
            place,
            ap length whole,
            length-append items (p ∷ f.1),
          );
          content = subst (λ l. BeginsWithContent c.args.behind.now l c.args.budget w.now c.in_ok-rest.rest.now)
              (sym e) f.0;
          recorded = subst (λ l. AreInside l f.1 w.now (c.args.budget - 1)) (sym e) f.3;
        },
      );
      counted = omega (
        arith,
        ap length new,
        length-append items (s ∷ f.1),
        ap length whole,
        length-append items (p ∷ f.1),
        ap length pushed,
        length-append items (p ∷ []),
        r.counted,
      );
      bounded = omega (arith, r.bounded);
      bounded_ok = omega (
        arith,
        ap span_octets new,
        span_octets_append items (s ∷ f.1),
        ap span_octets whole,
        span_octets_append items (p ∷ f.1),
        ap span_octets pushed,
        span_octets_append items (p ∷ []),
        ap (λ l. open_octets l w.now) e,
        ap (λ l. open_octets l c.args.behind.now) e,
        r.bounded_ok,
      );
    }

-- one of a definite length

pub record_to_end_marker-returns-in_err-after-clause-found : goal.record_to_end_marker-returns-in_err-after-clause-found
record_to_end_marker-returns-in_err-after-clause-found t c =
    let u = c.elements.invariant.found in
    let l : length_of c.in_ok-behind.header ≡ Definite c.in-Definite.size = sym c.length.ensures ∙ c.in-Definite.is in
    let p = err_from_is_err_and c.from_residual-in_err-after.result c.from_residual-in_err-after.ensures.1 in
    rw (p.1, p.2) (content_answered _ (spans_are_elements u.2) u.3
    (rw l at c.in_ok-behind.ensures.exactly.found.begins) _ _ _ _ c.in_err-after.field-0.0 (omega arith) (λ m. absurd m) c.in_err-after.ensures)

pub record_to_end_marker-elements-preserved-in-Definite : goal.record_to_end_marker-elements-preserved-in-Definite
record_to_end_marker-elements-preserved-in-Definite t c =
    let v = c.elements.invariant in
    let u = v.found in
    let behind = c.in_ok-behind.behind.now in
    let h = c.in_ok-behind.header in
    let g = c.in_ok-behind.ensures.exactly.found in
    let counted = c.in_ok-behind.ensures.counted in
    let w = c.in_ok-after.bytes in
    let after = c.in_ok-after.after.now in
    let f = c.in_ok-after.ensures in
    let pushed = c.in_ok-push.ensures.items in
    let l : length_of h ≡ Definite c.in-Definite.size = sym c.length.ensures ∙ c.in-Definite.is in
    let s : Span = record { element = record { header = h; bytes = w }; inside = 0 } in
    let r : RecordsElement h behind (c.args.budget - 1) (s ∷ []) after = record {
      span = s;
      inside = [];
      spans = refl;
      header = refl;
      number = refl;
      content = subst (λ x. BeginsWithContent behind x (c.args.budget - 1) w.now after) (sym l) f;
      recorded = subst (λ x. AreInside x [] w.now (c.args.budget - 1 - 1)) (sym l) refl;
    } in
    let octets = definite_octets _ _ _ _ _ _ g l f in record {
      found = one_more_span c.args.i.now c.elements.rest.now behind after u.0 u.1 (s ∷ []) _ _ _ (c.args.budget - 1) h
          (omega arith) u.2 u.3 g r c.if-begins_with_end_marker.ensures u.4 pushed;
      counted = omega (arith, ap length pushed, length-append c.elements.spans.items (s ∷ []), v.counted, counted);
      bounded = omega (arith, octets, v.bounded, counted);
      bounded_ok = omega (
        arith,
        octets,
        ap span_octets pushed,
        span_octets_append c.elements.spans.items (s ∷ []),
        v.bounded_ok,
        counted,
      );
    }
