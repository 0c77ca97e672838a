use Rattle.std.proofs.Common.{◌≡◌, IfOk, false, subst, sym}
use Rattle.der_cli.specs.Outputs.{IsRefusedBy}
use Rattle.der_cli.proofs.run.act.Goals as goal

pub returns-in-Get-clause-refused : goal.returns-in-Get-clause-refused
returns-in-Get-clause-refused g c =
    let new = g.W.Write.contents c.write_part.new.out in
    subst (λ a. IfOk c.write_part.result (λ ok. ok ≡ false → IsRefusedBy a c.args.options.now c.args.octets.now (g.W.Write.contents c.args.out.now) new)) (sym c.in-Get.is)
    c.write_part.ensures.refused

pub returns-in-Show-clause-refused : goal.returns-in-Show-clause-refused
returns-in-Show-clause-refused g c =
    let new = g.W.Write.contents c.show.new.out in
    subst (λ a. IfOk c.show.result (λ ok. ok ≡ false → IsRefusedBy a c.args.options.now c.args.octets.now (g.W.Write.contents c.args.out.now) new)) (sym c.in-Show.is)
    c.show.ensures.refused
