use Rattle.std.proofs.Common.{Global, Vec, ℕ}
use Rattle.der_cli.specs.Taken.{unopened}
use Rattle.der_cli.proofs.Opening.{opens}
use Rattle.der_cli.proofs.inputs.side.Goals as goal

pub returns-in_default : goal.returns-in_default
returns-in_default g c = unopened c.read_or_report.ensures.others

pub returns : goal.returns
returns g c =
    let read = rw c.in-Some.is at c.in_ok-octets.ensures.read in
    opens (λ (v : Vec ℕ Global). v.items) c.octets_in.result c.args.form c.args.name.now c.in-Some.octets.items c.deref.result.now (g.I.Read.remaining c.args.input.now)
    (g.I.Read.remaining c.read_or_report.new.input) c.deref.ensures.value c.read_or_report.ensures.others read c.octets_in.ensures
