use Rattle.std.proofs.Common.{◌++◌, ◌∙◌, ap, refl, subst, codes}
use Rattle.std.specs.Cmp.Lexicographic.{other_text, same_text}
use Rattle.der_input.specs.Blocks.{EndsLines, endless_end, endless_label, endless_lines, other_label}
use Rattle.der_input.proofs.pem.next_block.Goals as goal

pub returns-in-Some-split_round-2-clause-ok : goal.returns-in-Some-split_round-2-clause-ok
returns-in-Some-split_round-2-clause-ok c =
    let opened = c.in-Some-split_round.opened.now in
    let lines = c.in-Some-split_lines.lines.now in
    let rest = c.in-Some-split_round-2.rest.now in
    let same = same_text c.in-Some-split_round-2.last.now c.in-Some-split_round.label.now c.if-eq.ensures in
    let last = c.in-Some-split_round-2.ensures in
    record {
      opened = opened;
      begin = (_, c.in-Some.ensures, c.in-Some-split_round.ensures);
      end = subst (EndsLines opened lines) (last.whole ∙ ap (λ w. w ++ (codes "-----" ++ rest)) same) c.in-Some-split_lines.ensures;
    }

pub returns-in_default-split_round-clause-err : goal.returns-in_default-split_round-clause-err
returns-in_default-split_round-clause-err c = endless_label _ refl c.in-Some.ensures c.in_default-split_round.ensures

pub returns-in_default-split_lines-clause-err : goal.returns-in_default-split_lines-clause-err
returns-in_default-split_lines-clause-err c =
    endless_lines _ _ refl (_, c.in-Some.ensures, c.in-Some-split_round.ensures) c.in_default-split_lines.ensures

pub returns-in-Some-2-clause-err : goal.returns-in-Some-2-clause-err
returns-in-Some-2-clause-err c =
    let last = c.in-Some-split_round-2.last.now in
    let label = c.in-Some-split_round.label.now in
    other_label _ _ _ _ _ _ refl (_, c.in-Some.ensures, c.in-Some-split_round.ensures) c.in-Some-split_lines.ensures
    c.in-Some-split_round-2.ensures (other_text last label c.if-eq.ensures)

pub returns-in-None-clause-err : goal.returns-in-None-clause-err
returns-in-None-clause-err c =
    endless_end _ _ _ _ refl (_, c.in-Some.ensures, c.in-Some-split_round.ensures) c.in-Some-split_lines.ensures c.in-None.ensures
