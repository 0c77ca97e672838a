use Rattle.std.proofs.Common.{rules, ◌≡◌, ℕ, ◌+◌, ◌<◌, List, ◌∷◌, ◌++◌, length, drop, get_or, ap, sym, ◌∙◌, arith, append_assoc}
use Rattle.std.proofs.lemmas.List.{append-nil, drop_more}
use Rattle.der_base.specs.Pretty.{bracketed, content_text, further, items_text, list_name, pretty}
use Rattle.der_object.specs.declared.object.BerObject.{BerObject}
use Rattle.der_object.specs.HeaderFacts.{form_of, forms_of, inner_forms}
use Rattle.der_object.specs.Layouts.{style}
use Rattle.der_object.specs.View.{content_tree, tree, trees}
use Rattle.der_object.proofs.Sending.{wrote_then, wrote_stop, wrote_exit}
use Rattle.der_object.proofs.TextViews.{not_true, not_false, if_shown, if_hidden, leaf_content, sequence_text, set_text}
use Rattle.der_object.proofs.text.+text.Goals as goal

pub send_text-returns-in_err-send_front : goal.send_text-returns-in_err-send_front
send_text-returns-in_err-send_front g t c = wrote_exit _ c.from_residual.ensures.1 (wrote_stop _ c.in_err-send_front.ensures)

pub send_text-returns : goal.send_text-returns
send_text-returns g t c = wrote_then c.in_ok-send_front.ensures (rw c.tag.ensures at c.send_content.ensures)

pub send_present-returns-in_err-send_str : goal.send_present-returns-in_err-send_str
send_present-returns-in_err-send_str g t c = wrote_exit _ c.from_residual.ensures.1 (wrote_stop _ c.in_err-send_str.ensures)

pub send_present-returns : goal.send_present-returns
send_present-returns g t c = wrote_then c.in_ok-send_str.ensures c.send_text.ensures

pub send_inside-returns-in_err-send_str : goal.send_inside-returns-in_err-send_str
send_inside-returns-in_err-send_str g t c = wrote_exit _ c.from_residual.ensures.1 (wrote_stop _ c.in_err-send_str.ensures)

pub send_inside-returns-in_err-send_items : goal.send_inside-returns-in_err-send_items
send_inside-returns-in_err-send_items g t c =
    let deep : c.saturating_add.result ≡ further (style c.args.layout) c.args.indent = search rules in
    wrote_exit _ c.from_residual-in_err-send_items.ensures.1 (wrote_stop _ (wrote_stop _ (wrote_then c.in_ok-send_str.ensures (rw (deep) at c.in_err-send_items.ensures))))

pub send_inside-returns-in_err-send_spaces : goal.send_inside-returns-in_err-send_spaces
send_inside-returns-in_err-send_spaces g t c =
    let deep : c.saturating_add.result ≡ further (style c.args.layout) c.args.indent = search rules in
    wrote_exit _ c.from_residual-in_err-send_spaces.ensures.1 (wrote_stop _ (wrote_then (wrote_then c.in_ok-send_str.ensures (rw (deep) at c.in_ok-send_items.ensures)) c.in_err-send_spaces.ensures))

pub send_inside-returns : goal.send_inside-returns
send_inside-returns g t c =
    let deep : c.saturating_add.result ≡ further (style c.args.layout) c.args.indent = search rules in
    wrote_then (wrote_then (wrote_then c.in_ok-send_str.ensures (rw (deep) at c.in_ok-send_items.ensures)) c.in_ok-send_spaces.ensures) c.send_str-2.ensures

pub send_tagged-returns-in_err-send_str : goal.send_tagged-returns-in_err-send_str
send_tagged-returns-in_err-send_str g t c = wrote_exit _ c.from_residual.ensures.1 (wrote_stop _ c.in_err-send_str.ensures)

pub send_tagged-returns-in_err-send_class_and_number : goal.send_tagged-returns-in_err-send_class_and_number
send_tagged-returns-in_err-send_class_and_number g t c =
    wrote_exit _ c.from_residual-in_err-send_class_and_number.ensures.1
    (wrote_stop _ (wrote_stop _ (wrote_stop _ (wrote_stop _ (wrote_then c.in_ok-send_str.ensures c.in_err-send_class_and_number.ensures)))))

pub send_tagged-returns-in_err-send_str-2 : goal.send_tagged-returns-in_err-send_str-2
send_tagged-returns-in_err-send_str-2 g t c =
    wrote_exit _ c.from_residual-in_err-send_str-2.ensures.1
    (wrote_stop _ (wrote_stop _ (wrote_stop _ (wrote_then (wrote_then c.in_ok-send_str.ensures c.in_ok-send_class_and_number.ensures) c.in_err-send_str-2.ensures))))

pub send_tagged-returns-in_err-send_text : goal.send_tagged-returns-in_err-send_text
send_tagged-returns-in_err-send_text g t c =
    let deep : c.saturating_add.result ≡ further (style c.args.layout) c.args.indent = search rules in
    wrote_exit _ c.from_residual-in_err-send_text.ensures.1
    (wrote_stop _ (wrote_stop _ (wrote_then (wrote_then (wrote_then c.in_ok-send_str.ensures c.in_ok-send_class_and_number.ensures) c.in_ok-send_str-2.ensures)
    (rw (deep) at c.in_err-send_text.ensures))))

pub send_tagged-returns-in_err-send_spaces : goal.send_tagged-returns-in_err-send_spaces
send_tagged-returns-in_err-send_spaces g t c =
    let deep : c.saturating_add.result ≡ further (style c.args.layout) c.args.indent = search rules in
    wrote_exit _ c.from_residual-in_err-send_spaces.ensures.1
    (wrote_stop _ (wrote_then (wrote_then (wrote_then (wrote_then c.in_ok-send_str.ensures c.in_ok-send_class_and_number.ensures) c.in_ok-send_str-2.ensures)
    (rw (deep) at c.in_ok-send_text.ensures)) c.in_err-send_spaces.ensures))

pub send_tagged-returns : goal.send_tagged-returns
send_tagged-returns g t c =
    let deep : c.saturating_add.result ≡ further (style c.args.layout) c.args.indent = search rules in
    wrote_then (wrote_then (wrote_then (wrote_then (wrote_then c.in_ok-send_str.ensures c.in_ok-send_class_and_number.ensures) c.in_ok-send_str-2.ensures)
    (rw (deep) at c.in_ok-send_text.ensures)) c.in_ok-send_spaces.ensures) c.send_str-3.ensures

pub send_list-returns-then-not-layout : goal.send_list-returns-then-not-layout
send_list-returns-then-not-layout g t c =
    let s = style c.args.layout in
    let n = c.args.indent in
    let os = c.args.items.now in
    let inside = bracketed n (items_text s (further s n) (trees os) (forms_of os)) in
    rw (if_hidden c.args.layout.recursive inside (not_true c.args.layout.recursive c.if-not-layout.true), append-nil (list_name c.args.tag.0)) (rw c.list_name.ensures at c.send_str.ensures)

pub send_list-returns-in_err-send_str : goal.send_list-returns-in_err-send_str
send_list-returns-in_err-send_str g t c = wrote_exit _ c.from_residual.ensures.1 (wrote_stop _ (rw c.list_name-2.ensures at c.in_err-send_str.ensures))

pub send_list-returns : goal.send_list-returns
send_list-returns g t c =
    let s = style c.args.layout in
    let n = c.args.indent in
    let os = c.args.items.now in
    let inside = bracketed n (items_text s (further s n) (trees os) (forms_of os)) in
    rw (if_shown c.args.layout.recursive inside (not_false c.args.layout.recursive c.if-not-layout.false))
    (wrote_then (rw c.list_name-2.ensures at c.in_ok-send_str.ensures) c.send_inside.ensures)

-- the item at a place and those behind it
items_from : (os : List BerObject) (n : ℕ) (o : BerObject) → n < length os → o ≡ get_or os n o → drop n os ≡ o ∷ drop (n + 1) os
items_from os n o within is = drop_more os n o within ∙ ap (λ x. x ∷ drop (n + 1) os) (sym is)

pub send_items-returns-in_err-send_text : goal.send_items-returns-in_err-send_text
send_items-returns-in_err-send_text g t c =
    let s = style c.args.layout in
    let done = c.loop-o.invariant.done in
    let here = items_from c.args.items.now c.loop-o.o-index c.o-item.result (omega arith) c.o-item.is in
    let all = done.1 ∙ ap (λ os. done.0 ++ items_text s c.args.indent (trees os) (forms_of os)) here in
    rw all (wrote_exit _ c.from_residual.ensures.1 (wrote_then done.2 (wrote_stop _ c.in_err-send_text.ensures)))

pub send_items-loop-o-preserved : goal.send_items-loop-o-preserved
send_items-loop-o-preserved g t c =
    let s = style c.args.layout in
    let n = c.args.indent in
    let done = c.loop-o.invariant.done in
    let o = c.o-item.result in
    let os = drop (c.loop-o.o-index + 1) c.args.items.now in
    let here = items_from c.args.items.now c.loop-o.o-index o (omega arith) c.o-item.is in
    record {
      done = (
        done.0 ++ pretty s n (tree o) (form_of o),
        done.1 ∙ ap (λ os. done.0 ++ items_text s n (trees os) (forms_of os)) here
            ∙ sym (append_assoc done.0 (pretty s n (tree o) (form_of o)) (items_text s n (trees os) (forms_of os))),
        wrote_then done.2 c.in_ok-send_text.ensures,
      );
    }

pub send_content-returns-in_default : goal.send_content-returns-in_default
send_content-returns-in_default g t c =
    let x = c.args.content.now in
    rw (leaf_content (style c.args.layout) c.args.indent c.args.tag.0 x (inner_forms x) c.in_default.not-Sequence c.in_default.not-Set c.in_default.not-Optional
    c.in_default.not-Tagged) c.send_leaf.ensures

pub send_content-returns-in-Sequence : goal.send_content-returns-in-Sequence
send_content-returns-in-Sequence g t c =
    let s = style c.args.layout in
    let n = c.args.indent in
    let k = c.args.tag.0 in
    rw (ap (λ x. content_text s n k (content_tree x) (inner_forms x)) c.in-Sequence.is ∙ sequence_text s n k c.in-Sequence.items) (rw c.deref.ensures.value at c.send_list.ensures)

pub send_content-returns-in-Set : goal.send_content-returns-in-Set
send_content-returns-in-Set g t c =
    let s = style c.args.layout in
    let n = c.args.indent in
    let k = c.args.tag.0 in
    rw (ap (λ x. content_text s n k (content_tree x) (inner_forms x)) c.in-Set.is ∙ set_text s n k c.in-Set.items) (rw c.deref-in-Set.ensures.value at c.send_list-in-Set.ensures)

pub send_content-returns-in-Tagged : goal.send_content-returns-in-Tagged
send_content-returns-in-Tagged g t c = rw c.in-Tagged.is (rw c.deref-in-Tagged.ensures at c.send_tagged.ensures)
