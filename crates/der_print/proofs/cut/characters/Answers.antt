use Rattle.std.proofs.Common.{sym, ◌∙◌, arith}
use Rattle.der_print.proofs.CutLaws.{count_from, count_at_end}
use Rattle.der_print.proofs.cut.characters.Goals as goal
use Rattle.der_print.proofs.cut.characters.Goals.{then-begins_character, else-begins_character}

pub loop-octet-preserved : goal.loop-octet-preserved
loop-octet-preserved c =
    let count = count_from c.args.text.now c.loop-octet.octet-index c.loop-octet-test.true in
    let test = sym c.begins_character.ensures in
    elim c.if-begins_character.branch [
      | then-begins_character w ↦ let one = rw (test ∙ w.if-begins_character.true) at count in (omega arith, omega arith)
      | else-begins_character w ↦ let none = rw (test ∙ w.if-begins_character.false) at count in (omega arith, omega arith)
    ]

pub returns : goal.returns
returns c = omega (arith, count_at_end c.args.text.now c.loop-octet.octet-index c.loop-octet-test.false)
