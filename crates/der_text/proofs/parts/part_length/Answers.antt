use Rattle.std.proofs.Common.{◌∙◌, ap, sym, length, take}
use Rattle.std.specs.Prelude.{if◌then◌else◌, max, min, not}
use Rattle.std.specs.List.{prefix_len}
use Rattle.std.proofs.lemmas.List.{take_min}
use Rattle.der_text.specs.Printed.{is_plain}
use Rattle.der_text.proofs.parts.part_length.Goals as goal

pub returns-then-text-clause-size : goal.returns-then-text-clause-size
returns-then-text-clause-size c =
    let w = c.args.octets.now in
    let n = prefix_len (λ x. not (is_plain x)) (take 32 w) in
    c.max.ensures ∙ ap (λ x. max x 1) c.hidden_length.ensures.count
    ∙ ap (λ x. max (prefix_len (λ y. not (is_plain y)) (take x w)) 1) c.min-most.ensures
    ∙ ap (λ x. max (prefix_len (λ y. not (is_plain y)) x) 1) (take_min 32 w)
    ∙ ap (λ b. if b then max n 1 else min 32 (length w)) (sym c.if-text.true)
