use Rattle.std.proofs.Common.{◌+◌, ◌∙◌, ap, length}
use Rattle.std.specs.Option.{option_and_then}
use Rattle.der_input.specs.Plain.{behind_headers}
use Rattle.der_input.proofs.characters.behind_line.Goals as goal

pub returns-in-Some : goal.returns-in-Some
returns-in-Some c =
    let text = c.args.text.now in
    let line = c.args.line.now in
    c.behind_headers.ensures ∙ ap (option_and_then (λ k. behind_headers text k (k + length line))) c.in-Some.ensures.place

pub returns-in-None : goal.returns-in-None
returns-in-None c =
    let text = c.args.text.now in
    let line = c.args.line.now in
    ap (option_and_then (λ k. behind_headers text k (k + length line))) c.in-None.ensures.place
