use Rattle.std.proofs.Common.{sym, subst, refl}
use Rattle.der_base.specs.declared.rules.Rules.TheVariants.{Ber}
use Rattle.der_elements.specs.Walked.{visited_of}
use Rattle.der_canon.specs.Errors.{IsStepTo, der}
use Rattle.der_canon.specs.NoDer.{HasNoDer, one_more}
use Rattle.der_canon.specs.Same.{no_extras}
use Rattle.der_canon.proofs.Readings.{parts_more}
use Rattle.der_canon.proofs.piece.Pieces.next_piece.Goals as goal

pub returns-in_default-clause-next : goal.returns-in_default-clause-next
returns-in_default-clause-next c = λ i vs h. (rw c.in_default.is at c.in_ok-element.ensures.visits) no_extras Ber i vs h

pub returns-in-Ok-clause-next : goal.returns-in-Ok-clause-next
returns-in-Ok-clause-next c = λ i vs h. let next = (rw c.in-Some.is at c.in_ok-element.ensures.visits) no_extras Ber i vs h in (next.0, next.1, c.in-Ok.ensures.form, next.3, c.in-Ok.ensures.kept i next.1)

pub returns-in-Ok-clause-errors : goal.returns-in-Ok-clause-errors
returns-in-Ok-clause-errors c = λ i vs h.
    let next = (rw c.in-Some.is at c.in_ok-element.ensures.visits) no_extras Ber i vs h.walk in
    let v = visited_of c.in-Some.element in
    let found = c.in-Ok.ensures.der i vs next.1 h.parts in
    record { walk = next.0; parts = parts_more i vs v c.in-Ok.parts found.0; have = one_more vs v h.have found.1 refl }

pub returns-in-Err-clause-errors : goal.returns-in-Err-clause-errors
returns-in-Err-clause-errors c = λ i vs h.
    let next = (rw c.in-Some.is at c.in_ok-element.ensures.visits) no_extras Ber i vs h.walk in
    let v = visited_of c.in-Some.element in
    let found = c.in-Err.ensures.der i vs next.1 h.parts in
    let told = c.refuse_element.ensures in
    der v next.0 (subst (HasNoDer i vs v) (sym told.told.1) found) told.told.0 (subst (λ n. IsStepTo v n c.refuse_element.result.step) next.2 told.step)
