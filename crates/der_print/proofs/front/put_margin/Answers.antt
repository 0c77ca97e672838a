use Rattle.std.proofs.Common.{◌∷◌, ◌++◌, ◌-◌, ◌∙◌, ap, append_assoc, arith, codes, decimal, drop, take}
use Rattle.der_base.specs.Pretty.{spaces}
use Rattle.der_elements.specs.Walked.{visited_of}
use Rattle.der_print.specs.Lines.{at_left, at_right, length_text, margin_text, place_text}
use Rattle.der_print.specs.Parts.{AddsPart}
use Rattle.der_print.specs.Texts.{octets_in}
use Rattle.der_print.proofs.PartLaws.{ok_then, part_ended}
use Rattle.der_print.proofs.RowLaws.{spaces_apart}
use Rattle.der_print.proofs.front.put_margin.Goals as goal

pub returns : goal.returns
returns c =
    let e = c.args.element.now in
    let limit = c.args.left.now in
    let left = c.end_part.new.left in
    let w = octets_in c.args.line.now in
    let n = c.spaces_of-spaces.result in
    let near = c.min-near.result in
    let all = octets_in c.put_spaces-2.new.self in
    let new = octets_in c.end_part.new.self in
    let offset = at_right 7 (decimal e.offset) in
    let header = at_right 2 (decimal e.header) in
    let length = at_left 7 (length_text e.length) in
    let row = c.as_bytes.ensures ∙ c.put_at_right-2.ensures.text
    ∙ ap (λ t. offset ++ t) (c.put-3.ensures.text
    ∙ ap (λ t. 0x20 ∷ t) (c.put_at_right.ensures.text
    ∙ ap (λ t. header ++ t) (c.put-2.ensures.text
    ∙ ap (λ t. 0x2b ∷ t) (c.put_length.ensures.text
    ∙ ap (λ t. length ++ t) (c.put.ensures.text
    ∙ ap (λ t. 0x20 ∷ t) (c.put_spaces.ensures.text
    ∙ ap (λ t. spaces near ++ t) c.new-row.ensures.text)))))) in
    let text = margin_text limit (visited_of e) in
    let is = ap (λ t. t ++ spaces (n - near)) row
    ∙ spaces_apart offset (codes " ") header (codes "+") length (codes " ") n near (omega arith)
    ∙ ap (λ k. place_text e.offset e.header e.length ++ spaces k) c.spaces_of-spaces.ensures.spaces in
    let put = c.in_ok-put_spaces.ensures ∙ ap (λ t. t ++ spaces (n - near)) c.in_ok-put.ensures
    ∙ append_assoc w c.as_bytes.result.now (spaces (n - near)) ∙ ap (λ t. w ++ t) is in
    ok_then c.end_part.result (λ _. AddsPart limit (drop c.len-start.result all) (take c.len-start.result all) new left)
    (λ _. AddsPart limit text w new left)
    (λ _ ends. part_ended limit left w text all new c.len-start.result c.len-start.ensures put ends) c.end_part.ensures
