use Rattle.std.proofs.Common.{◌≡◌, ◌++◌, ◌-◌, ◌∙◌, ap, arith, codes, drop, length, min, sym, take, append_assoc}
use Rattle.std.proofs.lemmas.List.{length-drop, take-append-drop}
use Rattle.std.specs.Fmt.{char_count, take_chars}
use Rattle.der_print.specs.Texts.{octets_in}
use Rattle.der_print.proofs.CutLaws.{count_bounded, first_in_columns, whole_in_columns}
use Rattle.der_print.proofs.PartLaws.{kept_after}
use Rattle.der_print.proofs.line_octets.LineOctets.cut.Goals as goal

pub returns-then-characters-columns : goal.returns-then-characters-columns
returns-then-characters-columns c =
    let old = octets_in c.args.self.now in
    let count = c.characters.ensures ∙ ap char_count c.octets_from-text.ensures in
    sym (take-append-drop c.args.start old) ∙ ap (λ w. take c.args.start old ++ w) (whole_in_columns c.args.columns (drop c.args.start old) (omega arith))

pub returns : goal.returns
returns c =
    let old = octets_in c.args.self.now in
    let start = c.args.start in
    let text = drop start old in
    let is = c.octets_from-text.ensures in
    let points = c.split_at.result.0.now in
    let kept = c.end_of-kept.result in
    let count = c.characters.ensures ∙ ap char_count is in
    let some = count_bounded text in
    let behind = length-drop start old in
    let long = ap length is in
    let least : c.min.result ≡ min 3 c.args.columns = omega arith in
    let front = c.split_at.ensures.front_len in
    let cut = kept_after old start kept c.saturating_add.result (omega arith) (omega arith) (omega arith) in
    let first = ap (take kept) (sym is) ∙ c.end_of-kept.ensures.first ∙ ap (take_chars (c.args.columns - length points)) is in
    let whole = first_in_columns c.args.columns (c.args.columns - length points) text points (omega arith) (c.split_at.ensures.front ∙ ap (λ k. take k (codes "...")) least) (omega arith) in
    c.in_ok-put.ensures ∙ ap (λ w. w ++ points) (c.truncate.ensures.items ∙ cut) ∙ append_assoc (take start old) (take kept text) points
    ∙ ap (λ w. take start old ++ w) (ap (λ w. w ++ points) first ∙ whole)
