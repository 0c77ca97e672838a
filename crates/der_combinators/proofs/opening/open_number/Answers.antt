use Rattle.der_base.specs.Containers.{unopened, other_number}
use Rattle.der_combinators.proofs.opening.open_number.Goals as goal

pub returns-in-Err-clause-err : goal.returns-in-Err-clause-err
returns-in-Err-clause-err g c = unopened c.in-Err.ensures.err

pub returns-in-Ok-assert_tag-clause-ok : goal.returns-in-Ok-assert_tag-clause-ok
returns-in-Ok-assert_tag-clause-ok g c = (c.in-Ok.ensures.ok, c.in-Ok-assert_tag.ensures)

pub returns-in-Err-assert_tag-clause-err : goal.returns-in-Err-assert_tag-clause-err
returns-in-Err-assert_tag-clause-err g c =
    let x = c.in-Ok.parts in
    let n = c.in-Err-assert_tag.ensures in
    other_number x.0 x.1.now x.2.now c.in-Ok.ensures.ok n.0 n.1 c.from.ensures
