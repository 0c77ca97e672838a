use Rattle.std.proofs.Common.{◌++◌, ◌∙◌, ap, append_assoc, codes}
use Rattle.derdump.proofs.Lines.{line_printed}
use Rattle.derdump.proofs.run.push_line.Goals as goal

pub returns-clause-ok : goal.returns-clause-ok
returns-clause-ok c =
    let before = c.args.pending.now.items in
    rw (c.in_ok-extend_from_slice.ensures.items, c.in_ok-push_text.ensures.ok)
    (append_assoc before _ (codes "\n") ∙ ap (λ w. before ++ w) (line_printed _ _ c.in_ok-printer.ensures))
