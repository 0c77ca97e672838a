use Rattle.std.proofs.Common.{◌≡◌, ◌<◌, ◌≤◌, ◌++◌, true, false, IsTrue, [], length, ap, drop, arith}
use Rattle.std.proofs.Common.{rules, inl, inr, refl, sym, subst, ◌∙◌}
use Rattle.std.proofs.lemmas.Bool.Decides.{nat_tests}
use Rattle.std.proofs.lemmas.Result.{err_from_is_err_and}
use Rattle.der_base.specs.declared.header.Class.TheVariants.{Universal}
use Rattle.der_base.specs.Cut.{Lacks}
use Rattle.der_base.specs.Fault.{ShowsFault}
use Rattle.der_base.specs.Header.{class_of, is_constructed, number_of, length_of}
use Rattle.der_base.specs.Leaf.{is_mapped, IsLeafContent}
use Rattle.der_base.specs.LeafRefusal.{BerLeafRefuses}
use Rattle.der_base.specs.Refusal.{refusal}
use Rattle.der_base.proofs.Answers.Answering.{passed_on, answered, ok_with}
use Rattle.der_values.proofs.LawsLaws.Answers.ItemAnswers.{item_answer, some_content, some_octets}
use Rattle.der_object.specs.View.{content_tree, trees}
use Rattle.der_object.specs.HeaderFacts.{forms_of}
use Rattle.der_object.proofs.Counting.{sequence_content_count, set_content_count, item_count_push}
use Rattle.der_readers.proofs.BerLaws.Items.{sequence_content, set_content, content_refused, content_memory, object_read}
use Rattle.der_readers.proofs.BerLaws.Items.{leaf_content, read_none, read_more, read_all, memory_deep, begins_behind, any_refused}
use Rattle.der_values.proofs.LawsLaws.Spellings.BerReadings.{any_cut}
use Rattle.der_readers.proofs.BerLaws.Items.{framing_cut, behind_refused, behind_memory}
use Rattle.der_base.specs.declared.header.Length.TheVariants.{Definite}
use Rattle.der_base.specs.Content.{BeginsWithContent, ContentLacks}
use Rattle.der_base.specs.Spelling.{framing_budget}
use Rattle.der_base.proofs.Framing.FramingAny.{any_lacks_header}
use Rattle.der_base.proofs.Framing.FramingLists.{header_takes_two}
use Rattle.std.proofs.lemmas.List.{length-drop}
use Rattle.der_base.specs.declared.spans.Span.{Span}
use Rattle.der_base.proofs.Framing.Recording.{definite_octets, inside_more, none_left}
use Rattle.der_readers.proofs.BerLaws.SpanItems.{span_end, span_inside, length_inside, octets_split, span_refused, depth_refused}
use Rattle.der_readers.proofs.BerLaws.SpanItems.{some_items, some_left, one_more_item, no_length}
use Rattle.der_readers.proofs.ber.reader.+reader.Goals as goal

pub read_items-loop-rest-preserved : goal.read_items-loop-rest-preserved
read_items-loop-rest-preserved t c = (
  rw c.in_ok-push_item-in-Ok.ensures.items
      (read_more c.args.content.now c.loop-rest.rest.now c.in-Ok.after.now c.loop-rest.items.items c.in-Ok.item
      c.args.max_depth c.loop-rest.invariant.0 c.in-Ok.ensures.found),
  rw c.in_ok-push_item-in-Ok.ensures.items
      (omega (
        arith,
        item_count_push c.loop-rest.items.items c.in-Ok.item,
        c.loop-rest.invariant.1,
        c.in-Ok.ensures.counted,
      )),
  omega (arith, c.loop-rest.invariant.2, c.in-Ok.ensures.bounded_ok),
)

pub read_items-returns-in-Err-clause-found : goal.read_items-returns-in-Err-clause-found
read_items-returns-in-Err-clause-found t c =
    let w = c.args.content.now in
    let rest = c.loop-rest.rest.now in
    let r = c.loop-rest.invariant.0 in
    let some : 0 < length rest = grind (arith, nat_tests) in
    item_answer _ _ _ _ _ (ShowsFault c.args.max_depth) Lacks rest c.in-Err.e c.refuse_cut_item.result
    c.refuse_cut_item.ensures some c.in-Err.ensures.found
    (λ x h. (trees c.loop-rest.items.items, forms_of c.loop-rest.items.items, r.read, rest, r.parts, r.joins, h))
    (λ m. (memory_deep c.args.max_depth rest m, some_content w r.read rest r.parts some))

pub read_object-returns-in_err-content-clause-found : goal.read_object-returns-in_err-content-clause-found
read_object-returns-in_err-content-clause-found t c =
    let h = c.args.any.header in
    let universal : class_of h ≡ Universal = search rules in
    let mapped : IsTrue (is_mapped (number_of h)) = search rules in
    let refused : BerLeafRefuses (is_constructed h) (number_of h) c.args.any.bytes.now
    (refusal c.in_err-content.field-0.0) =
    rw (← c.constructed.ensures, ← c.tag-tag.ensures) c.in_err-content.ensures in
    let p = err_from_is_err_and c.from_residual-in_err-content.result c.from_residual-in_err-content.ensures.1 in
    rw (p.1, p.2) (universal, mapped, inl refused)

pub read_object-returns-then-eq-clause-found : goal.read_object-returns-then-eq-clause-found
read_object-returns-then-eq-clause-found t c =
    let h = c.args.any.header in
    let universal : class_of h ≡ Universal = search rules in
    let constructed : is_constructed h ≡ true = search rules in
    let number : number_of h ≡ 16 = search rules in
    let e = c.from_header_and_content-then-eq.ensures in (
      refl,
      e.header,
      rw e.content (sequence_content c.args.any.bytes.now h c.in_ok-items.items c.args.max_depth
          universal constructed number c.in_ok-items.ensures.found),
    )

pub read_object-returns-then-eq-2-clause-found : goal.read_object-returns-then-eq-2-clause-found
read_object-returns-then-eq-2-clause-found t c =
    let h = c.args.any.header in
    let universal : class_of h ≡ Universal = search rules in
    let constructed : is_constructed h ≡ true = search rules in
    let number : number_of h ≡ 17 = search rules in
    let e = c.from_header_and_content-then-eq-2.ensures in (
      refl,
      e.header,
      rw e.content (set_content c.args.any.bytes.now h c.in_ok-items-2.items c.args.max_depth universal
          constructed number c.in_ok-items-2.ensures.found),
    )

pub read_object-returns-then-is_mapped-clause-found : goal.read_object-returns-then-is_mapped-clause-found
read_object-returns-then-is_mapped-clause-found t c =
    let h = c.args.any.header in
    let w = c.args.any.bytes.now in
    let x = c.in_ok-content.content in
    let universal : class_of h ≡ Universal = search rules in
    let read : IsLeafContent (is_constructed h) (number_of h) w (content_tree x) =
    rw (← c.constructed.ensures, ← c.tag-tag.ensures) c.in_ok-content.ensures in
    let e = c.from_header_and_content-then-is_mapped.ensures in
    (refl, e.header, rw e.content (leaf_content w h x c.args.max_depth universal read))

-- an element

pub read_element-returns-in_err-behind-clause-found : goal.read_element-returns-in_err-behind-clause-found
read_element-returns-in_err-behind-clause-found t c =
    let i = c.args.i.now in
    let d = c.args.max_depth in
    let deep : 1 ≤ d = omega arith in
    let p = err_from_is_err_and c.from_residual.result c.from_residual.ensures.1 in
    rw (p.1, p.2) (passed_on _ _ c.in_err-behind.field-0.0 c.in_err-behind.ensures.exactly.found
    (λ e h. any_refused d i e deep (inl h)) (λ n h. any_cut d i n deep (any_lacks_header i n h)) (λ m. absurd m))

pub read_element-returns-in_err-rest-in-Definite-clause-found :
    goal.read_element-returns-in_err-rest-in-Definite-clause-found
read_element-returns-in_err-rest-in-Definite-clause-found t c =
    let i = c.args.i.now in
    let d = c.args.max_depth in
    let behind = c.in_ok-behind.behind.now in
    let h = c.in_ok-behind.header in
    let q = c.in_ok-behind.ensures.exactly.found in
    let deep : 1 ≤ d = omega arith in
    let l : length_of h ≡ Definite c.in-Definite.size = sym c.length.ensures ∙ c.in-Definite.is in
    let p = err_from_is_err_and c.from_residual-in_err-rest-in-Definite.result
    c.from_residual-in_err-rest-in-Definite.ensures.1 in
    rw (p.1, p.2) (passed_on _ _ c.in_err-rest-in-Definite.field-0.0 c.in_err-rest-in-Definite.ensures
    (λ e r. absurd r)
    (λ n r. framing_cut d i behind h n deep q (subst (λ v. ContentLacks behind v framing_budget n) (sym l) r))
    (λ m. absurd m))

pub read_element-returns-in_ok-rest-in-Definite-clause-found :
    goal.read_element-returns-in_ok-rest-in-Definite-clause-found
read_element-returns-in_ok-rest-in-Definite-clause-found t c =
    let i = c.args.i.now in
    let d = c.args.max_depth in
    let behind = c.in_ok-behind.behind.now in
    let h = c.in_ok-behind.header in
    let q = c.in_ok-behind.ensures.exactly.found in
    let w = c.in_ok-rest-in-Definite.bytes.now in
    let rest = c.in_ok-rest-in-Definite.rest.now in
    let deep : 1 ≤ d = omega arith in
    let l : length_of h ≡ Definite c.in-Definite.size = sym c.length.ensures ∙ c.in-Definite.is in
    let f : BeginsWithContent behind (length_of h) framing_budget w rest =
    subst (λ v. BeginsWithContent behind v framing_budget w rest) (sym l) c.in_ok-rest-in-Definite.ensures in
    let b = begins_behind i behind w rest h q f in
    answered _ _ c.read_object.result c.read_object.ensures.found
    (λ x y. object_read i behind w rest x.0.now h x.1 d q f deep y)
    (λ e y. content_refused d i rest w (class_of h) (is_constructed h) (number_of h) e deep b y)
    (λ m y. absurd y)
    (λ m. content_memory d i rest w (class_of h) (is_constructed h) (number_of h) b m)

pub read_element-returns-in-Indefinite-clause-found : goal.read_element-returns-in-Indefinite-clause-found
read_element-returns-in-Indefinite-clause-found t c =
    let i = c.args.i.now in
    let d = c.args.max_depth in
    let behind = c.in_ok-behind.behind.now in
    let h = c.in_ok-behind.header in
    let q = c.in_ok-behind.ensures.exactly.found in
    let deep : 1 ≤ d = omega arith in
    answered _ _ c.read_behind.result c.read_behind.ensures.found
    (λ x y. object_read i behind y.octets x.0.now x.0.now h x.1 d q y.framed deep (refl, y.header, y.content))
    (λ e y. behind_refused d i behind h e deep q y)
    (λ n y. framing_cut d i behind h n deep q y)
    (λ m. behind_memory d i behind h deep q m)

-- counts of an element

pub read_element-returns-in_ok-rest-in-Definite-clause-bounded :
    goal.read_element-returns-in_ok-rest-in-Definite-clause-bounded
read_element-returns-in_ok-rest-in-Definite-clause-bounded t c =
    let octets = definite_octets _ _ _ _ _ _ c.in_ok-behind.ensures.exactly.found (sym c.length.ensures ∙ c.in-Definite.is)
    c.in_ok-rest-in-Definite.ensures in
    omega (arith, octets, c.in_ok-behind.ensures.counted, c.read_object.ensures.bounded)

pub read_element-returns-in_ok-rest-in-Definite-clause-bounded_ok :
    goal.read_element-returns-in_ok-rest-in-Definite-clause-bounded_ok
read_element-returns-in_ok-rest-in-Definite-clause-bounded_ok t c =
    let octets = definite_octets _ _ _ _ _ _ c.in_ok-behind.ensures.exactly.found (sym c.length.ensures ∙ c.in-Definite.is)
    c.in_ok-rest-in-Definite.ensures in
    ok_with _ _ _ c.read_object.result _ _ c.read_object.ensures.found c.read_object.ensures.bounded_ok
    (λ x y k. omega (arith, octets, ap length y.0, c.in_ok-behind.ensures.counted, k))

pub read_element-returns-in-Indefinite-clause-bounded : goal.read_element-returns-in-Indefinite-clause-bounded
read_element-returns-in-Indefinite-clause-bounded t c =
    let two = header_takes_two _ _ _ _ _ _ c.in_ok-behind.ensures.exactly.found.begins in
    omega (arith, two, c.in_ok-behind.ensures.counted, c.read_behind.ensures.bounded)

pub read_element-returns-in-Indefinite-clause-bounded_ok : goal.read_element-returns-in-Indefinite-clause-bounded_ok
read_element-returns-in-Indefinite-clause-bounded_ok t c =
    let two = header_takes_two _ _ _ _ _ _ c.in_ok-behind.ensures.exactly.found.begins in
    ok_with _ _ _ c.read_behind.result _ _ c.read_behind.ensures.found c.read_behind.ensures.bounded_ok
    (λ x y k. omega (arith, two, c.in_ok-behind.ensures.counted, k))

-- and of a list in it

pub read_object-returns-then-eq-clause-counted : goal.read_object-returns-then-eq-clause-counted
read_object-returns-then-eq-clause-counted t c =
    rw c.from_header_and_content-then-eq.ensures.content
    (omega (arith, sequence_content_count c.in_ok-items.items, c.in_ok-items.ensures.counted))

pub read_object-returns-then-eq-2-clause-counted : goal.read_object-returns-then-eq-2-clause-counted
read_object-returns-then-eq-2-clause-counted t c =
    rw c.from_header_and_content-then-eq-2.ensures.content
    (omega (arith, set_content_count c.in_ok-items-2.items, c.in_ok-items-2.ensures.counted))

-- what stands behind a header

pub read_behind-returns-in_err-rest-clause-found : goal.read_behind-returns-in_err-rest-clause-found
read_behind-returns-in_err-rest-clause-found t c =
    let p = err_from_is_err_and c.from_residual.result c.from_residual.ensures.1 in
    rw (p.1, p.2) (passed_on _ _ c.in_err-rest.field-0.0 c.in_err-rest.ensures.found
    (λ e r. inl (rw c.length.ensures at r))
    (λ n r. rw c.length.ensures at r)
    (λ m. inr (rw c.length.ensures at m)))

pub read_behind-returns-clause-found : goal.read_behind-returns-clause-found
read_behind-returns-clause-found t c =
    let h = c.args.header in
    let k = c.args.budget in
    let d = c.args.max_depth in
    let behind = c.args.behind.now in
    let w = c.in_ok-rest.bytes.now in
    let rest = c.in_ok-rest.rest.now in
    let f : BeginsWithContent behind (length_of h) k w rest = rw c.length.ensures at c.in_ok-rest.ensures.found.0 in
    answered _ _ c.read_object.result c.read_object.ensures.found
    (λ x y. record { octets = w; framed = rw y.0 f; header = y.1; content = y.2 })
    (λ e y. inr (w, rest, f, y))
    (λ m y. absurd y)
    (λ m. inl (m.0, m.1, m.2, m.3, w, rest, m.4, f))

pub read_behind-read_object-requires : goal.read_behind-read_object-requires
read_behind-read_object-requires t c =
    let f = c.in_ok-rest.ensures.found in
    let w = c.in_ok-rest.bytes.now in
    let e : c.deref.result.now ≡ f.1 = c.deref.ensures.value ∙ f.2 ∙ ap (λ v. v ++ f.1) c.new-spans.ensures.items in
    let r = inside_more c.length.result f.1 w framing_budget (omega (arith, c.requires.bounded)) f.3 in
    (omega arith, (c.requires.deep, rw (← c.length.ensures, e) r))

-- the items that spans are of

-- what an index answers past the end
abbrev none : Span
none = record {
  element = record {
    header = record {
      class = Universal;
      constructed = false;
      definite = false;
      has_raw_tag = false;
      tag = record { 0 = 0 };
      size = 0;
      raw_tag = record { ref_ptr = (0, 0); now = [] };
    };
    bytes = record { ref_ptr = (0, 0); now = [] };
  };
  inside = 0;
}

pub read_spans-loop-at-init : goal.read_spans-loop-at-init
read_spans-loop-at-init t c = (
  (λ w h. (w, rw (c.reserve_exact.ensures.items, c.new-items.ensures.items) (read_none w c.args.max_depth), h)),
  omega arith,
  rw (c.reserve_exact.ensures.items, c.new-items.ensures.items) (omega arith),
  omega arith,
)

pub read_spans-returns-then-max_depth-eq0-clause-found : goal.read_spans-returns-then-max_depth-eq0-clause-found
read_spans-returns-then-max_depth-eq0-clause-found t c = λ w h.
    let i = c.loop-at.invariant.0 w h in
    depth_refused c.args.spans.now c.loop-at.at none w i.0 c.loop-at.items.items c.args.max_depth
    c.if-max_depth-eq0.true c.loop-at-test.true i.1 i.2

pub read_spans-overflow_add-end : goal.read_spans-overflow_add-end
read_spans-overflow_add-end t c =
    let i = c.loop-at.invariant.0 c.requires.0 c.requires.1 in
    let e = span_end c.args.spans.now c.loop-at.at none i.0 framing_budget c.loop-at-test.true i.2 in
    omega (arith, e)

pub read_spans-slice_bounds-inside-end : goal.read_spans-slice_bounds-inside-end
read_spans-slice_bounds-inside-end t c =
    let i = c.loop-at.invariant.0 c.requires.0 c.requires.1 in
    let e = span_end c.args.spans.now c.loop-at.at none i.0 framing_budget c.loop-at-test.true i.2 in
    omega (arith, e)

pub read_spans-read_object-requires : goal.read_spans-read_object-requires
read_spans-read_object-requires t c =
    let i = c.loop-at.invariant.0 c.requires.0 c.requires.1 in (
      omega arith,
      (omega arith, span_inside c.args.spans.now c.loop-at.at none i.0 framing_budget c.loop-at-test.true i.2),
    )

pub read_spans-returns-in-Err-clause-found : goal.read_spans-returns-in-Err-clause-found
read_spans-returns-in-Err-clause-found t c = λ w h.
    let i = c.loop-at.invariant.0 w h in
    let ss = c.args.spans.now in
    let at = c.loop-at.at in
    let d = c.args.max_depth in
    let os = c.loop-at.items.items in
    let deep : 1 ≤ d = omega arith in
    passed_on _ _ c.in-Err.e c.in-Err.ensures.found
    (λ e r. span_refused ss at none w i.0 os d e deep c.loop-at-test.true i.1 i.2 r)
    (λ n r. absurd r)
    (λ m. (deep, some_items ss at none w i.0 os d c.loop-at-test.true i.1 i.2))

pub read_spans-returns-in-Err-clause-bounded : goal.read_spans-returns-in-Err-clause-bounded
read_spans-returns-in-Err-clause-bounded t c =
    omega (
      arith,
      c.loop-at.invariant.3,
      octets_split c.args.spans.now c.loop-at.at none c.loop-at-test.true,
      c.in-Err.ensures.bounded,
    )

pub read_spans-returns-in_err-reserve_exact-clause-found : goal.read_spans-returns-in_err-reserve_exact-clause-found
read_spans-returns-in_err-reserve_exact-clause-found t c = λ w h.
    let p = err_from_is_err_and c.from_residual.result c.from_residual.ensures.1 in
    let n = c.item_number.ensures (omega (arith, c.in_err-reserve_exact.ensures.full)) in
    rw (p.1, p.2) (n.0, some_octets w (some_left c.args.spans.now 0 none w (omega (arith, n.1)) h))

pub read_spans-returns-in_err-push-in-Ok-clause-found : goal.read_spans-returns-in_err-push-in-Ok-clause-found
read_spans-returns-in_err-push-in-Ok-clause-found t c = λ w h.
    let i = c.loop-at.invariant.0 w h in
    let d = c.args.max_depth in
    let deep : 1 ≤ d = omega arith in
    let p = err_from_is_err_and c.from_residual-in_err-push-in-Ok.result c.from_residual-in_err-push-in-Ok.ensures.1 in
    rw (p.1, p.2) (
      deep,
      some_items c.args.spans.now c.loop-at.at none w i.0 c.loop-at.items.items d
          c.loop-at-test.true i.1 i.2,
    )

pub read_spans-returns-in_err-push-in-Ok-clause-bounded : goal.read_spans-returns-in_err-push-in-Ok-clause-bounded
read_spans-returns-in_err-push-in-Ok-clause-bounded t c =
    omega (
      arith,
      c.loop-at.invariant.3,
      octets_split c.args.spans.now c.loop-at.at none c.loop-at-test.true,
      c.in-Ok.ensures.bounded,
    )

pub read_spans-loop-at-preserved : goal.read_spans-loop-at-preserved
read_spans-loop-at-preserved t c =
    let ss = c.args.spans.now in
    let at = c.loop-at.at in
    let d = c.args.max_depth in
    let deep : 1 ≤ d = omega arith in
    let y = c.in-Ok.ensures.found in
    let first = c.loop-at.invariant.0 c.requires.0 c.requires.1 in (
      (λ w h.
          let i = c.loop-at.invariant.0 w h in
          rw c.in_ok-push-in-Ok.ensures.items
          (one_more_item ss at none w i.0 c.loop-at.items.items c.in-Ok.item d deep c.loop-at-test.true
          i.1 i.2 y.1 y.2)),
      span_end ss at none first.0 framing_budget c.loop-at-test.true first.2,
      rw c.in_ok-push-in-Ok.ensures.items (omega (
        arith,
        item_count_push c.loop-at.items.items c.in-Ok.item,
        length_inside ss at none first.0 framing_budget c.loop-at-test.true first.2,
        c.loop-at.invariant.2,
        c.in-Ok.ensures.counted,
      )),
      omega (arith, c.loop-at.invariant.3, octets_split ss at none c.loop-at-test.true, c.in-Ok.ensures.bounded_ok),
    )

pub read_spans-returns-clause-found : goal.read_spans-returns-clause-found
read_spans-returns-clause-found t c = λ w h.
    let i = c.loop-at.invariant.0 w h in
    let ss = c.args.spans.now in
    let n : length (drop c.loop-at.at ss) ≡ 0 = omega (arith, length-drop c.loop-at.at ss) in
    let e = none_left i.2 (no_length (drop c.loop-at.at ss) n) in
    read_all w i.0 c.loop-at.items.items c.args.max_depth i.1 (ap length e)
