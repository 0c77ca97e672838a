use Rattle.der_elements.proofs.walk.Walk.find_fault.Goals as goal

pub elements-init : goal.elements-init
elements-init c = λ x r i vs has. (vs, has)

pub elements-preserved : goal.elements-preserved
elements-preserved c = λ x r i vs has.
    let so = c.elements.invariant x r i vs has in
    let next = rw c.in-Ok-Some.field-0-is at (c.in-Ok-Some.ensures.visits x r i so.0 so.1) in
    (_, next.0)

pub returns-in-Ok-None : goal.returns-in-Ok-None
returns-in-Ok-None c = λ x r i vs has.
    let so = c.elements.invariant x r i vs has in
    (so.0, rw c.in-Ok-None.field-0-is at (c.in-Ok-None.ensures.visits x r i so.0 so.1))

pub returns-in-Err : goal.returns-in-Err
returns-in-Err c = λ x r i vs has.
    let so = c.elements.invariant x r i vs has in
    (so.0, c.in-Err.ensures.visits x r i so.0 so.1)
