use Rattle.der_cli.specs.Taken.{unread}
use Rattle.der_cli.proofs.Taking.{read_is_taken}
use Rattle.der_cli.proofs.inputs.run_file.Goals as goal

pub returns-in_ok-is_read-in-Ok : goal.returns-in_ok-is_read-in-Ok
returns-in_ok-is_read-in-Ok g c =
    rw c.outcome_of.ensures
    (read_is_taken c.args.options.now c.args.name.now c.shown.result.now c.in-Ok.octets.items c.deref.result.now (g.I.Read.remaining c.args.input.now)
    (g.I.Read.remaining c.read_file.new.input) (g.W.Write.contents c.args.out.now) (g.W.Write.contents c.run.new.out) c.in_ok-is_read-in-Ok.is_read c.shown.ensures
    c.deref.ensures.value c.read_file.ensures.others c.in-Ok.ensures.read c.in_ok-is_read-in-Ok.ensures.read c.in_ok-is_read-in-Ok.ensures.refused)

pub returns-in_ok-report_unread-in-Err : goal.returns-in_ok-report_unread-in-Err
returns-in_ok-report_unread-in-Err g c = unread c.read_file.ensures.others c.flush.ensures.bytes
