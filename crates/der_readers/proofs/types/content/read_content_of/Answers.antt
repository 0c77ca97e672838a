use Rattle.der_base.proofs.Answers.Answering.{answered}
use Rattle.der_readers.proofs.TypesLaws.ContentsRead.{behind_read, behind_refused, behind_lacks, behind_needs}
use Rattle.der_readers.proofs.types.content.read_content_of.Goals as goal

pub returns-in_ok-check_length-in-Ber : goal.returns-in_ok-check_length-in-Ber
returns-in_ok-check_length-in-Ber c =
    let h = c.args.header in
    let i = c.args.i.now in
    let d = c.args.max_depth in
    let m = rw c.in-Ber.is at c.in_ok-check_length-in-Ber.ensures in
    rw c.in-Ber.is (answered _ _ c.read_behind.result (rw c.min-budget.ensures at c.read_behind.ensures.found) (λ x r. behind_read h d i m x.1 x.0.now r) (behind_refused h d i m) (behind_lacks h d i m) (behind_needs h d i m))
