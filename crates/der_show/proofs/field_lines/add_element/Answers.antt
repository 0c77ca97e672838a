use Rattle.std.proofs.Common.{refl}
use Rattle.der_print.proofs.PartLaws.{ok_then}
use Rattle.der_elements.specs.Walked.{visited_of}
use Rattle.der_show.specs.declared.field_lines.Written.{Written}
use Rattle.der_show.specs.FieldLines.{AddsLine}
use Rattle.der_show.specs.Leaves.{leaf_line, words_text}
use Rattle.der_show.proofs.field_lines.add_element.Goals as goal

pub returns-in_ok-add_leaf_line-in-InWords : goal.returns-in_ok-add_leaf_line-in-InWords
returns-in_ok-add_leaf_line-in-InWords c =
    let old = c.args.written.now in
    let mid : Written = record old { lines = c.add_leaf_line-in-InWords.new.text } in
    let line : AddsLine (leaf_line words_text c.args.field.now (visited_of c.args.element.now)) old mid =
    record { lines = c.in_ok-add_leaf_line-in-InWords.ensures; words = refl; keeps = refl } in
    rw c.in-InWords.is (ok_then c.add_words.result _ _ (λ _ k. (mid, line, k)) c.add_words.ensures)
