use Rattle.std.proofs.Common.{◌≡◌, ◌∙◌, Bool, IfOk, List, codes, subst, sym, ℕ}
use Rattle.clap.specs.Words.{found_of, rows_of}
use Rattle.clap.proofs.WalkLemmas.{raw_values-rows}
use Rattle.der_cli.specs.Runs.{files_named}
use Rattle.der_cli.specs.Taken.{RunsFiles}
use Rattle.der_cli.proofs.Taking.{files_are, no_files_are}
use Rattle.der_cli.proofs.streams.run_inputs.Goals as goal

pub returns-in-Some : goal.returns-in-Some
returns-in-Some g c =
    let found = found_of c.args.matches.now in
    let rows = rows_of found in
    let o = c.args.options.now in
    let input = g.I.Read.remaining c.args.input.now in
    let old = g.W.Write.contents c.args.out.now in
    let new = g.W.Write.contents c.run_files.new.out in
    let named = files_are c.get_strs.result c.in-Some.files _ (c.get_strs.ensures ∙ raw_values-rows found (codes "file")) c.in-Some.is in
    subst (λ (r : Bool). IfOk c.run_files.result (RunsFiles o (files_named rows) r input old new)) c.has_flag-is_recursive.ensures
    (subst (λ (fs : List (List ℕ)). IfOk c.run_files.result (RunsFiles o fs c.has_flag-is_recursive.result input old new)) named c.run_files.ensures)

pub returns-in-None : goal.returns-in-None
returns-in-None g c =
    let found = found_of c.args.matches.now in
    let rows = rows_of found in
    let o = c.args.options.now in
    let input = g.I.Read.remaining c.args.input.now in
    let old = g.W.Write.contents c.args.out.now in
    let new = g.W.Write.contents c.run_files-in-None.new.out in
    let ran = c.run_files-in-None.result in
    let named = no_files_are c.get_strs.result _ (c.get_strs.ensures ∙ raw_values-rows found (codes "file")) c.in-None.is in
    subst (λ (r : Bool). IfOk ran (RunsFiles o (files_named rows) r input old new)) c.has_flag-is_recursive.ensures
    (subst (λ (fs : List (List ℕ)). IfOk ran (RunsFiles o fs c.has_flag-is_recursive.result input old new)) named c.run_files-in-None.ensures)
