use Rattle.std.proofs.Common.{refl}
use Rattle.der_cli.specs.Outputs.{IsRefusedBy, RefusesFile, Writes, WritesFile}
use Rattle.der_actions.proofs.Printing.{then_reads, then_refuses}
use Rattle.der_cli.proofs.run.act_on_file.Goals as goal

pub returns-clause-written : goal.returns-clause-written
returns-clause-written g c =
    let o = c.args.options.now in
    let i = c.args.octets.now in
    let new = g.W.Write.contents c.act.new.out in
    let between = g.W.Write.contents c.write_heading.new.out in
    then_reads c.act.result (Writes o.action o i between new) (WritesFile o c.args.name.now i (g.W.Write.contents c.args.out.now) new)
    (λ written. record { between = between; heading = c.in_ok-write_heading.ensures; writes = written }) (c.act.ensures.written refl)

pub returns-clause-refused : goal.returns-clause-refused
returns-clause-refused g c =
    let o = c.args.options.now in
    let i = c.args.octets.now in
    let new = g.W.Write.contents c.act.new.out in
    let between = g.W.Write.contents c.write_heading.new.out in
    then_refuses c.act.result (IsRefusedBy o.action o i between new) (RefusesFile o c.args.name.now i (g.W.Write.contents c.args.out.now) new)
    (λ refused. record { between = between; heading = c.in_ok-write_heading.ensures; refused = refused }) c.act.ensures.refused
