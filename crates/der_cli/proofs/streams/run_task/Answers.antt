use Rattle.std.proofs.Common.{IfOk, subst, sym}
use Rattle.clap.specs.Words.{found_of, rows_of}
use Rattle.der_cli.specs.Runs.{RunsTask}
use Rattle.der_cli.proofs.streams.run_task.Goals as goal

pub returns-in-Act-clause-runs : goal.returns-in-Act-clause-runs
returns-in-Act-clause-runs g c =
    let rows = rows_of (found_of c.args.matches.now) in
    let input = g.I.Read.remaining c.args.input.now in
    let old = g.W.Write.contents c.args.out.now in
    let new = g.W.Write.contents c.run_action.new.out in
    subst (λ t. IfOk c.run_action.result (RunsTask t rows c.args.terminal input old new)) (sym c.in-Act.is) c.run_action.ensures.runs

pub returns-in-Diff-clause-runs : goal.returns-in-Diff-clause-runs
returns-in-Diff-clause-runs g c =
    let rows = rows_of (found_of c.args.matches.now) in
    let input = g.I.Read.remaining c.args.input.now in
    let old = g.W.Write.contents c.args.out.now in
    let new = g.W.Write.contents c.run_diff.new.out in
    subst (λ t. IfOk c.run_diff.result (RunsTask t rows c.args.terminal input old new)) (sym c.in-Diff.is) c.run_diff.ensures.runs

pub returns-in_ok-is_text-in-Text-clause-runs : goal.returns-in_ok-is_text-in-Text-clause-runs
returns-in_ok-is_text-in-Text-clause-runs g c =
    let rows = rows_of (found_of c.args.matches.now) in
    let input = g.I.Read.remaining c.args.input.now in
    let old = g.W.Write.contents c.args.out.now in
    let new = g.W.Write.contents c.run_text.new.out in
    subst (λ t. RunsTask t rows c.args.terminal input old new c.status_of.result) (sym c.in-Text.is)
    (c.in_ok-is_text-in-Text.is_text, c.in_ok-is_text-in-Text.ensures, c.status_of.ensures.status)

pub returns-in_ok-are_octets-in-Octets-clause-runs : goal.returns-in_ok-are_octets-in-Octets-clause-runs
returns-in_ok-are_octets-in-Octets-clause-runs g c =
    let rows = rows_of (found_of c.args.matches.now) in
    let input = g.I.Read.remaining c.args.input.now in
    let old = g.W.Write.contents c.args.out.now in
    let new = g.W.Write.contents c.run_octets.new.out in
    subst (λ t. RunsTask t rows c.args.terminal input old new c.status_of-in-Octets.result) (sym c.in-Octets.is)
    (c.in_ok-are_octets-in-Octets.are_octets, c.in_ok-are_octets-in-Octets.ensures, c.status_of-in-Octets.ensures.status)

pub returns-in_ok-are_modules-in-Modules-clause-runs : goal.returns-in_ok-are_modules-in-Modules-clause-runs
returns-in_ok-are_modules-in-Modules-clause-runs g c =
    let rows = rows_of (found_of c.args.matches.now) in
    let input = g.I.Read.remaining c.args.input.now in
    let old = g.W.Write.contents c.args.out.now in
    let new = g.W.Write.contents c.run_modules.new.out in
    subst (λ t. RunsTask t rows c.args.terminal input old new c.status_of-in-Modules.result) (sym c.in-Modules.is) c.status_of-in-Modules.ensures.bounded
