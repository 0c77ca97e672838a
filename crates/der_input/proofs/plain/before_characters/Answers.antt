use Rattle.std.proofs.Common.{◌∙◌, sym, ap, take, take_all, arith}
use Rattle.der_input.proofs.plain.before_characters.Goals as goal

pub returns-then-end-line : goal.returns-then-end-line
returns-then-end-line c =
    let line = c.args.line.now in
    sym (take_all _ line (omega arith)) ∙ ap (λ n. take n line) c.characters_begin-end.ensures
