use Rattle.std.proofs.Common.{◌≡◌, ◌<◌, ◌≤◌, ◌++◌, true, false, IsTrue, length, take, sym, ap, ◌∙◌, arith, rules, inl, refl}
use Rattle.std.proofs.lemmas.Bool.Decides.{nat_tests}
use Rattle.std.proofs.lemmas.List.{take-append-drop}
use Rattle.std.proofs.lemmas.Result.{err_from_is_err_and}
use Rattle.der_base.specs.declared.header.Class.TheVariants.{Universal}
use Rattle.der_base.specs.Cut.{DerLacks}
use Rattle.der_base.specs.Fault.{DerShowsFault}
use Rattle.der_base.specs.Header.{class_of, is_constructed, number_of}
use Rattle.der_base.specs.Spelling.{max_object_size}
use Rattle.der_base.specs.Encoding.{content_octets}
use Rattle.der_base.specs.Leaf.{is_mapped, IsDerLeaf}
use Rattle.der_base.specs.LeafRefusal.{DerLeafRefuses}
use Rattle.der_base.specs.Refusal.{refusal}
use Rattle.der_base.proofs.Answers.Answering.{passed_on, answered, ok_weaker}
use Rattle.der_values.proofs.LawsLaws.Spellings.DerWithinBer.{content_tall}
use Rattle.der_values.proofs.LawsLaws.Answers.ItemAnswers.{item_answer, some_content}
use Rattle.der_base.specs.Count.{some_more}
use Rattle.der_base.specs.Listing.{object_count, content_count}
use Rattle.der_base.proofs.Spellings.Counted.{leaf_counted}
use Rattle.der_object.proofs.Counting.{sequence_content_count, set_content_count}
use Rattle.der_object.specs.View.{tree, content_tree, trees}
use Rattle.der_readers.proofs.DerLaws.Counts.{none_counted, bounded_behind, counted_more, counted_around}
use Rattle.der_values.proofs.LawsLaws.Spellings.DerReadings.{header_cut, content_cut, header_shorter}
use Rattle.der_readers.proofs.DerLaws.Items.{sequence_content, set_content, header_refused, size_refused, content_refused}
use Rattle.der_readers.proofs.DerLaws.Items.{content_memory, object_read, leaf_content, read_none, read_more, read_all}
use Rattle.der_readers.proofs.der.reader.+reader.Goals as goal

pub read_element-returns-in_err-rest-clause-found : goal.read_element-returns-in_err-rest-clause-found
read_element-returns-in_err-rest-clause-found t c =
    let i = c.args.i.now in
    let d = c.args.max_depth in
    let deep : 1 ≤ d = omega arith in
    let p = err_from_is_err_and c.from_residual.result c.from_residual.ensures.1 in
    rw (p.1, p.2) (passed_on _ _ c.in_err-rest.field-0.0 c.in_err-rest.ensures.exactly.found (λ e h. header_refused d i e deep h) (λ n h. header_cut d i n deep h) (λ m. absurd m))

pub read_element-returns-then-length-gt-MAX_OBJECT_SIZE-clause-found : goal.read_element-returns-then-length-gt-MAX_OBJECT_SIZE-clause-found
read_element-returns-then-length-gt-MAX_OBJECT_SIZE-clause-found t c =
    let h = c.in_ok-rest.header in
    let found = c.in_ok-rest.ensures.exactly.found in
    let size : c.in_ok-length.length ≡ found.size = (let stated = found.length in let taken = c.length.ensures in let is = c.in_ok-length.ensures in cc) in
    size_refused c.args.max_depth c.args.i.now c.in_ok-rest.rest.now (class_of h) (is_constructed h) (number_of h) found.size (omega arith) found.begins (omega arith)

pub read_element-returns-then-rest-length-clause-found : goal.read_element-returns-then-rest-length-clause-found
read_element-returns-then-rest-length-clause-found t c =
    let h = c.in_ok-rest.header in
    let found = c.in_ok-rest.ensures.exactly.found in
    let size : c.in_ok-length.length ≡ found.size = (let stated = found.length in let taken = c.length.ensures in let is = c.in_ok-length.ensures in cc) in
    content_cut c.args.max_depth c.args.i.now c.in_ok-rest.rest.now (class_of h) (is_constructed h) (number_of h) found.size c.lacking.result (omega arith) found.begins (omega arith) (omega arith)
    (λ u. c.lacking.ensures.universal u ∙ size) (λ u. c.lacking.ensures.other u ∙ size)

pub read_items-returns-in_err-push_item-in-Ok-clause-found : goal.read_items-returns-in_err-push_item-in-Ok-clause-found
read_items-returns-in_err-push_item-in-Ok-clause-found t c =
    let r = c.loop-rest.invariant.0 in
    let k = c.in-Ok.ensures.found in
    let some : 0 < length c.loop-rest.rest.now = grind (arith, nat_tests) in
    let deep : 1 ≤ c.args.max_depth = omega (arith, k.spells.depth, content_tall (content_tree c.in-Ok.item.content)) in
    let p = err_from_is_err_and c.from_residual.result c.from_residual.ensures.1 in
    rw (p.1, p.2) (deep, some_content c.args.content.now r.read c.loop-rest.rest.now r.parts some)

pub read_items-returns-in-Err-clause-found : goal.read_items-returns-in-Err-clause-found
read_items-returns-in-Err-clause-found t c =
    let w = c.args.content.now in
    let rest = c.loop-rest.rest.now in
    let r = c.loop-rest.invariant.0 in
    let some : 0 < length rest = grind (arith, nat_tests) in
    item_answer _ _ _ _ _ (DerShowsFault c.args.max_depth) DerLacks rest c.in-Err.e c.refuse_cut_item.result c.refuse_cut_item.ensures some c.in-Err.ensures.found
    (λ x h. (trees c.loop-rest.items.items, r.read, rest, r.parts, r.joins, h))
    (λ m. (omega (arith, m.0), some_content w r.read rest r.parts some))

pub read_items-loop-rest-preserved : goal.read_items-loop-rest-preserved
read_items-loop-rest-preserved t c = (
  rw c.in_ok-push_item-in-Ok.ensures.items (read_more c.args.content.now c.loop-rest.rest.now c.in-Ok.after.now c.loop-rest.items.items c.in-Ok.item c.args.max_depth
      c.loop-rest.invariant.0 c.in-Ok.ensures.found),
  rw c.in_ok-push_item-in-Ok.ensures.items (c.in-Ok.ensures.counted ∙ ap (some_more (object_count (tree c.in-Ok.item))) c.loop-rest.invariant.1
      ∙ counted_more c.loop-rest.items.items c.in-Ok.item c.args.count.now),
)

pub read_items-returns-clause-found : goal.read_items-returns-clause-found
read_items-returns-clause-found t c =
    let none : length c.loop-rest.rest.now ≡ 0 = grind (arith, nat_tests) in
    read_all c.args.content.now c.loop-rest.rest.now c.loop-rest.items.items c.args.max_depth c.loop-rest.invariant.0 none

pub read_element-returns-clause-found : goal.read_element-returns-clause-found
read_element-returns-clause-found t c =
    let h = c.in_ok-rest.header in
    let found = c.in_ok-rest.ensures.exactly.found in
    let n = c.in_ok-length.length in
    let rest = c.in_ok-rest.rest.now in
    let w = c.split_at.result.0.now in
    let r = c.split_at.result.1.now in
    let i = c.args.i.now in
    let d = c.args.max_depth in
    let deep : 1 ≤ d = omega arith in
    let size : n ≡ found.size = (let stated = found.length in let taken = c.length.ensures in let is = c.in_ok-length.ensures in cc) in
    let small : found.size ≤ max_object_size = omega arith in
    let parts : rest ≡ w ++ r = sym (ap (λ v. v ++ r) c.split_at.ensures.front ∙ ap (λ v. take n rest ++ v) c.split_at.ensures.back ∙ take-append-drop n rest) in
    let whole : length w ≡ found.size = omega arith in
    answered _ _ c.read_object.result c.read_object.ensures.found
    (λ x q. object_read i rest w r x.0.now h x.1 found.size d found.begins found.length found.raw_tag small parts whole q)
    (λ e q. content_refused d i rest w r (class_of h) (is_constructed h) (number_of h) found.size e deep found.begins small parts whole q)
    (λ m q. absurd q)
    (λ m. content_memory d i rest w r (class_of h) (is_constructed h) (number_of h) found.size found.begins parts whole m)

pub read_element-returns-clause-shorter : goal.read_element-returns-clause-shorter
read_element-returns-clause-shorter t c =
    let h = c.in_ok-rest.header in
    let found = c.in_ok-rest.ensures.exactly.found in
    let s = header_shorter c.args.i.now c.in_ok-rest.rest.now (class_of h) (is_constructed h) (number_of h) found.size found.begins in
    ok_weaker _ _ _ c.read_object.result _ c.read_object.ensures.found (λ x q. omega (arith, s, ap length q.0, c.split_at.ensures.back_len))

pub read_object-returns-in_err-content-clause-found : goal.read_object-returns-in_err-content-clause-found
read_object-returns-in_err-content-clause-found t c =
    let h = c.args.header in
    let universal : class_of h ≡ Universal = search rules in
    let mapped : IsTrue (is_mapped (number_of h)) = search rules in
    let refused : DerLeafRefuses (is_constructed h) (number_of h) c.args.octets.now (refusal c.in_err-content.field-0.0) = rw (← c.constructed.ensures, ← c.tag-tag.ensures) c.in_err-content.ensures in
    let p = err_from_is_err_and c.from_residual-in_err-content.result c.from_residual-in_err-content.ensures.1 in
    rw (p.1, p.2) (universal, mapped, inl refused)

pub read_object-returns-then-eq-clause-found : goal.read_object-returns-then-eq-clause-found
read_object-returns-then-eq-clause-found t c =
    let h = c.args.header in
    let universal : class_of h ≡ Universal = search rules in
    let constructed : is_constructed h ≡ true = search rules in
    let number : number_of h ≡ 16 = search rules in
    let e = c.from_header_and_content-then-eq.ensures in
    (refl, e.header, rw e.content (sequence_content c.args.octets.now h c.in_ok-read_items.field-0 c.args.max_depth universal constructed number c.requires.deep c.in_ok-read_items.ensures.found))

pub read_object-returns-then-eq-2-clause-found : goal.read_object-returns-then-eq-2-clause-found
read_object-returns-then-eq-2-clause-found t c =
    let h = c.args.header in
    let universal : class_of h ≡ Universal = search rules in
    let constructed : is_constructed h ≡ true = search rules in
    let number : number_of h ≡ 17 = search rules in
    let e = c.from_header_and_content-then-eq-2.ensures in
    (refl, e.header, rw e.content (set_content c.args.octets.now h c.in_ok-read_items-2.field-0 c.args.max_depth universal constructed number c.requires.deep c.in_ok-read_items-2.ensures.found))

pub read_object-returns-clause-found : goal.read_object-returns-clause-found
read_object-returns-clause-found t c =
    let h = c.args.header in
    let w = c.args.octets.now in
    let x = c.in_ok-content.content in
    let universal : class_of h ≡ Universal = search rules in
    let read : (is_constructed h ≡ false) × IsDerLeaf (number_of h) (content_tree x) × (w ≡ content_octets (content_tree x)) =
    rw (← c.constructed.ensures, ← c.tag-tag.ensures) c.in_ok-content.ensures in
    let e = c.from_header_and_content-2.ensures in
    (refl, e.header, rw e.content (leaf_content w h x c.args.max_depth universal c.requires.deep read.0 read.1 read.2))

-- counts

pub read_items-loop-rest-init : goal.read_items-loop-rest-init
read_items-loop-rest-init t c =
    let n = c.args.count.now in
    rw c.new-items.ensures.items (read_none c.args.content.now c.args.max_depth, none_counted 0 n refl c.requires)

pub read_items-returns-in_err-push_item-in-Ok-clause-bounded : goal.read_items-returns-in_err-push_item-in-Ok-clause-bounded
read_items-returns-in_err-push_item-in-Ok-clause-bounded t c =
    bounded_behind c.args.content.now c.loop-rest.rest.now c.loop-rest.items.items c.args.max_depth c.args.count.now c.loop-rest.count _ c.loop-rest.invariant.0 c.loop-rest.invariant.1
    c.in-Ok.ensures.bounded

pub read_items-returns-in-Err-clause-bounded : goal.read_items-returns-in-Err-clause-bounded
read_items-returns-in-Err-clause-bounded t c =
    bounded_behind c.args.content.now c.loop-rest.rest.now c.loop-rest.items.items c.args.max_depth c.args.count.now c.loop-rest.count _ c.loop-rest.invariant.0 c.loop-rest.invariant.1
    c.in-Err.ensures.bounded

pub read_items-returns-clause-bounded : goal.read_items-returns-clause-bounded
read_items-returns-clause-bounded t c =
    bounded_behind c.args.content.now c.loop-rest.rest.now c.loop-rest.items.items c.args.max_depth c.args.count.now c.loop-rest.count _ c.loop-rest.invariant.0 c.loop-rest.invariant.1 (omega arith)

pub read_element-returns-clause-bounded : goal.read_element-returns-clause-bounded
read_element-returns-clause-bounded t c =
    let h = c.in_ok-rest.header in
    let found = c.in_ok-rest.ensures.exactly.found in
    let s = header_shorter c.args.i.now c.in_ok-rest.rest.now (class_of h) (is_constructed h) (number_of h) found.size found.begins in
    omega (arith, s, c.in_ok-rest.ensures.counted, c.split_at.ensures.front_len, c.split_at.ensures.back_len, c.read_object.ensures.bounded)

pub read_object-returns-then-not-is_universal-clause-counted : goal.read_object-returns-then-not-is_universal-clause-counted
read_object-returns-then-not-is_universal-clause-counted t c =
    let n = c.args.count.now in
    rw c.from_header_and_content.ensures.content (none_counted 0 n refl c.requires.counts)

pub read_object-returns-clause-counted : goal.read_object-returns-clause-counted
read_object-returns-clause-counted t c =
    let n = c.args.count.now in
    let x = content_tree c.in_ok-content.content in
    let none = leaf_counted false c.tag-tag.result.0 (content_octets x) x c.in_ok-content.ensures.1.0 in
    rw c.from_header_and_content-2.ensures.content (none_counted (content_count x) n none c.requires.counts)

pub read_object-returns-then-eq-clause-counted : goal.read_object-returns-then-eq-clause-counted
read_object-returns-then-eq-clause-counted t c =
    let v = c.in_ok-read_items.field-0 in
    let n = c.args.count.now in
    rw c.from_header_and_content-then-eq.ensures.content (c.in_ok-read_items.ensures.counted ∙ ap (λ k. some_more k n) (sym (sequence_content_count v)))

pub read_object-returns-then-eq-2-clause-counted : goal.read_object-returns-then-eq-2-clause-counted
read_object-returns-then-eq-2-clause-counted t c =
    let v = c.in_ok-read_items-2.field-0 in
    let n = c.args.count.now in
    rw c.from_header_and_content-then-eq-2.ensures.content (c.in_ok-read_items-2.ensures.counted ∙ ap (λ k. some_more k n) (sym (set_content_count v)))

pub read_element-returns-clause-counted : goal.read_element-returns-clause-counted
read_element-returns-clause-counted t c =
    counted_around c.read_object.result c.args.count.now _ c.read_object.new.count c.in_ok-rest.ensures.counted c.read_object.ensures.counted
