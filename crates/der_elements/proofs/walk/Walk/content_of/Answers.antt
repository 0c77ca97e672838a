use Rattle.std.proofs.Common.{drop, sym, ap, ◌∙◌, Some}
use Rattle.std.proofs.lemmas.List.{length-take-le, take-append-drop}
use Rattle.der_elements.proofs.walk.Walk.content_of.Goals as goal

pub returns-then-length-here-clause-content : goal.returns-then-length-here-clause-content
returns-then-length-here-clause-content c =
    let n = c.in-Some.length in
    let here = c.args.here.now in
    (drop n here, sym (take-append-drop n here), c.in-Some.is ∙ ap Some (sym (length-take-le n here c.if-length-here.true)))
