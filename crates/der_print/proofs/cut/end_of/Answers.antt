use Rattle.std.proofs.Common.{◌++◌, take, drop, sym, ap, ◌∙◌, true, false, arith}
use Rattle.std.proofs.Math.Seq.{take-length}
use Rattle.std.specs.Fmt.{take_chars}
use Rattle.der_print.proofs.CutLaws.{first_stops, first_keeps, first_at_end}
use Rattle.der_print.proofs.cut.end_of.Goals as goal
use Rattle.der_print.proofs.cut.end_of.Goals.{then-begins_character+else-left-eq0, else-begins_character}

pub returns-then-left-eq0-clause-first : goal.returns-then-left-eq0-clause-first
returns-then-left-eq0-clause-first c =
    let s = c.args.text.now in
    let i = c.loop-index.index in
    sym (first_stops s i c.loop-index-test.true (sym c.begins_character.ensures ∙ c.if-begins_character.true))
    ∙ ap (λ n. take i s ++ take_chars n (drop i s)) (sym c.if-left-eq0.true) ∙ c.loop-index.invariant

pub loop-index-preserved : goal.loop-index-preserved
loop-index-preserved c =
    let keeps = first_keeps c.args.text.now c.loop-index.index c.loop-index.left c.if-begins_character.left in
    let test = sym c.begins_character.ensures in
    elim c.if-begins_character.branch [
      | then-begins_character+else-left-eq0 w ↦ keeps true c.loop-index-test.true (test ∙ w.if-begins_character.true) (omega arith) ∙ c.loop-index.invariant
      | else-begins_character w ↦ keeps false c.loop-index-test.true (test ∙ w.if-begins_character.false) (omega arith) ∙ c.loop-index.invariant
    ]

pub returns-clause-first : goal.returns-clause-first
returns-clause-first c =
    let s = c.args.text.now in
    take-length s ∙ sym (first_at_end s c.loop-index.index c.loop-index.left c.loop-index-test.false) ∙ c.loop-index.invariant
