use Rattle.std.proofs.Common.{List, codes, refl, subst, ℕ}
use Rattle.std.proofs.lemmas.Result.{IfOk-weaker}
use Rattle.clap.specs.Words.{found_of, rows_of}
use Rattle.der_actions.specs.declared.options.Action.TheVariants.{Tree}
use Rattle.der_cli.specs.Runs.{ComparesFiles, RunsDiff, file_named, of_no_type, on_both}
use Rattle.der_cli.proofs.Asking.{is_asked}
use Rattle.der_cli.proofs.inputs.run_diff.Goals as goal

pub returns-in_default-clause-runs : goal.returns-in_default-clause-runs
returns-in_default-clause-runs g c =
    let k = c.in_ok-naming.ensures c.in_default.is in
    of_no_type k.0 k.1 refl

pub returns-clause-runs : goal.returns-clause-runs
returns-clause-runs g c =
    let rows = rows_of (found_of c.args.matches.now) in
    let asked = c.diff_options.result in
    let o = record asked { own_names = c.args.own_names; naming = c.in-Some.naming } in
    let input = g.I.Read.remaining c.args.input.now in
    let before = g.W.Write.contents c.args.out.now in
    let after = g.W.Write.contents c.diff_files.new.out in
    let asks = is_asked Tree rows c.args.terminal asked asked o c.diff_options.ensures refl (λ n e. refl) refl in
    IfOk-weaker c.diff_files.result (ComparesFiles o c.file_of-first.result.now c.file_of-second.result.now input before after) (RunsDiff rows c.args.terminal input before after)
    (λ n compares.
    on_both o asks
    (subst (λ (f : List ℕ). ComparesFiles o f (file_named (codes "second") rows) input before after n) c.file_of-first.ensures
    (subst (λ (s : List ℕ). ComparesFiles o c.file_of-first.result.now s input before after n) c.file_of-second.ensures compares)))
    c.diff_files.ensures.compares
