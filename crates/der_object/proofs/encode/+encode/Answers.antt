use Rattle.std.proofs.Common.{rules, ◌≡◌, ℕ, ◌+◌, ◌<◌, ◌^◌, List, ◌∷◌, ◌++◌, length, drop, get_or, ap, sym, ◌∙◌, arith, append_assoc}
use Rattle.std.proofs.lemmas.List.{drop_more}
use Rattle.der_base.specs.Encoding.{encoding, encodings, content_octets}
use Rattle.der_object.specs.declared.object.BerObject.{BerObject}
use Rattle.der_object.specs.declared.object.BerObjectContent.{the_lemmas}
use Rattle.der_object.specs.View.{tree, trees, content_tree}
use Rattle.der_object.proofs.Sending.{wrote_then, wrote_stop, wrote_exit}
use Rattle.der_object.proofs.Trees.{sequence_tree, set_tree}
use Rattle.der_object.proofs.encode.+encode.Goals as goal

pub send_content-send_items-requires : goal.send_content-send_items-requires
send_content-send_items-requires g t c =
    let w = ap content_octets (ap content_tree c.in-Sequence.is ∙ sequence_tree c.in-Sequence.items) in
    let fits : length (encodings (trees c.deref.result.now)) < 2 ^ 64 = rw (c.deref.ensures.value) (omega (arith, ap length w, c.requires)) in
    search (rules, the_lemmas)

pub send_content-send_items-requires-in-Set : goal.send_content-send_items-requires-in-Set
send_content-send_items-requires-in-Set g t c =
    let w = ap content_octets (ap content_tree c.in-Set.is ∙ set_tree c.in-Set.items) in
    let fits : length (encodings (trees c.deref-in-Set.result.now)) < 2 ^ 64 = rw (c.deref-in-Set.ensures.value) (omega (arith, ap length w, c.requires)) in
    search (rules, the_lemmas)

pub send_element-returns : goal.send_element-returns
send_element-returns g t c =
    let n : c.unwrap-n.result ≡ length (content_octets (content_tree c.args.content.now)) = search rules in
    wrote_then (rw n at c.in_ok-send_header.ensures) c.send_content.ensures

pub send_tagged-returns : goal.send_tagged-returns
send_tagged-returns g t c =
    let n : c.unwrap-n.result ≡ length (encoding (tree c.args.o.now)) = search rules in
    let h = c.new-header.ensures in
    wrote_then (rw (h.class, h.constructed, h.number, n) at c.in_ok-send_header.ensures) c.send_object.ensures

-- the item at a place and those behind it
items_from : (os : List BerObject) (n : ℕ) (o : BerObject) → n < length os → o ≡ get_or os n o → drop n os ≡ o ∷ drop (n + 1) os
items_from os n o within is = drop_more os n o within ∙ ap (λ x. x ∷ drop (n + 1) os) (sym is)

pub send_items-returns-in_err-send_object : goal.send_items-returns-in_err-send_object
send_items-returns-in_err-send_object g t c =
    let done = c.loop-o.invariant.done in
    let here = items_from c.args.items.now c.loop-o.o-index c.o-item.result (omega arith) c.o-item.is in
    let all = done.1 ∙ ap (λ os. done.0 ++ encodings (trees os)) here in
    rw all (wrote_exit _ c.from_residual.ensures.1 (wrote_then done.2 (wrote_stop _ c.in_err-send_object.ensures)))

pub send_items-loop-o-preserved : goal.send_items-loop-o-preserved
send_items-loop-o-preserved g t c =
    let done = c.loop-o.invariant.done in
    let o = c.o-item.result in
    let rest = encodings (trees (drop (c.loop-o.o-index + 1) c.args.items.now)) in
    let here = items_from c.args.items.now c.loop-o.o-index o (omega arith) c.o-item.is in
    record {
      done = (
        done.0 ++ encoding (tree o),
        done.1 ∙ ap (λ os. done.0 ++ encodings (trees os)) here ∙ sym (append_assoc done.0 (encoding (tree o)) rest),
        wrote_then done.2 c.in_ok-send_object.ensures,
      );
    }
