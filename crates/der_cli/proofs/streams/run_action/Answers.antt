use Rattle.std.proofs.Common.{refl}
use Rattle.der_cli.specs.Runs.{no_type, on_files}
use Rattle.der_cli.proofs.Asking.{is_asked}
use Rattle.der_cli.proofs.streams.run_action.Goals as goal

pub returns-in_default-clause-runs : goal.returns-in_default-clause-runs
returns-in_default-clause-runs g c =
    let k = c.in_ok-naming.ensures c.in_default.is in
    no_type k.0 k.1 refl

pub returns-clause-runs : goal.returns-clause-runs
returns-clause-runs g c =
    rw c.status_of.ensures.status
    (on_files _ c.in_ok-are_read.are_read
    (is_asked c.args.action _ c.args.terminal c.options_of.result c.at_present-asked.result _ c.options_of.ensures c.at_present-asked.ensures.present
    c.at_present-asked.ensures.given refl) c.in_ok-are_read.ensures)
