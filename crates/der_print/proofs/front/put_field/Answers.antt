use Rattle.std.proofs.Common.{◌≡◌, [], arith, sym, ◌∙◌}
use Rattle.std.proofs.lemmas.Bool.Decides.{nat_tests}
use Rattle.std.proofs.lemmas.List.{nil_from_length}
use Rattle.der_print.specs.Texts.{octets_in}
use Rattle.der_print.proofs.PartLaws.{adds_none}
use Rattle.der_print.proofs.front.put_field.Goals as goal

pub returns-then-is_empty : goal.returns-then-is_empty
returns-then-is_empty c =
    let test = sym c.is_empty.ensures ∙ c.if-is_empty.true in
    let none : c.args.field.now ≡ [] = nil_from_length c.args.field.now (grind (arith, nat_tests)) in
    rw none (adds_none c.args.left.now (octets_in c.args.line.now))
