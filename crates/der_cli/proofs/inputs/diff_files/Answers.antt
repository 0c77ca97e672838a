use Rattle.std.proofs.Common.{refl, subst}
use Rattle.std.proofs.lemmas.Result.{IfOk-weaker}
use Rattle.der_cli.specs.Runs.{ComparesFiles, both_files, no_first, no_second}
use Rattle.der_cli.specs.Statuses.{ComparesTo}
use Rattle.der_cli.proofs.inputs.diff_files.Goals as goal

pub returns-in_default-clause-compares : goal.returns-in_default-clause-compares
returns-in_default-clause-compares g c = no_first (g.I.Read.remaining c.side.new.input) (rw c.in_default.is at c.in_ok-old.ensures) refl

pub returns-in_default-2-clause-compares : goal.returns-in_default-2-clause-compares
returns-in_default-2-clause-compares g c =
    no_second c.in-Some.old.items (g.I.Read.remaining c.side.new.input) (g.I.Read.remaining c.side-2.new.input) (rw c.in-Some.is at c.in_ok-old.ensures)
    (rw c.in_default-2.is at c.in_ok-new.ensures) refl

pub returns-clause-compares : goal.returns-clause-compares
returns-clause-compares g c =
    let o = c.args.options.now in
    let before = g.W.Write.contents c.args.out.now in
    let after = g.W.Write.contents c.status_of_sides.new.out in
    let first = rw c.in-Some.is at c.in_ok-old.ensures in
    let second = rw c.in-Some-2.is at c.in_ok-new.ensures in
    IfOk-weaker c.status_of_sides.result (ComparesTo o c.deref.result.now c.deref-2.result.now before after)
    (ComparesFiles o c.args.first.now c.args.second.now (g.I.Read.remaining c.args.input.now) before after)
    (λ n compares.
    both_files c.in-Some.old.items c.in-Some-2.new.items (g.I.Read.remaining c.side.new.input) (g.I.Read.remaining c.side-2.new.input) first second
    (subst (λ i. ComparesTo o i c.in-Some-2.new.items before after n) c.deref.ensures.value
    (subst (λ j. ComparesTo o c.deref.result.now j before after n) c.deref-2.ensures.value compares)))
    c.status_of_sides.ensures.status
