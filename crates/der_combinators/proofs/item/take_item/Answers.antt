use Rattle.std.proofs.Common.{rules, ℕ, ◌<◌, List, length, Bor, Ok, Err, refl, arith}
use Rattle.std.proofs.lemmas.Result.{err_from_is_err_and}
use Rattle.der_base.specs.declared.error.Err.TheVariants.{OutOfMemory}
use Rattle.der_base.specs.declared.error.Error.{Error as BerError}
use Rattle.der_base.specs.declared.error.ErrorKind.{ErrorKind}
use Rattle.der_base.specs.ListSteps.{at_end, left_over, refused, failed, out_of_memory, stuck, no_room, taken}
use Rattle.der_base.specs.Inner.Taken.{one_more, ended, refused as no_item}
use Rattle.der_base.specs.SetOfOrder.{Descends}
use Rattle.der_combinators.specs.Inner.InOrder.{TakesInOrder, in_order, out_of_order}
use Rattle.der_combinators.proofs.item.take_item.Goals as goal

pub returns-then-rest-input : goal.returns-then-rest-input
returns-then-rest-input g c =
    rw c.in-Ok.is (in_order (λ l. absurd (omega (arith, l, c.if-rest-input.true)))
    (no_item (stuck {v = c.in-Ok.value} (refl, refl) refl c.if-rest-input.true c.from_error_kind.ensures)))

pub returns-in_err-check_order-in-Ok : goal.returns-in_err-check_order-in-Ok
returns-in_err-check_order-in-Ok g c =
    let p = err_from_is_err_and c.from_residual.result c.from_residual.ensures.1 in
    let (d, t) = c.in_err-check_order-in-Ok.ensures.err in
    rw (p.1, p.2, c.in-Ok.is) (out_of_order {r = c.in-Ok.rest} {v = c.in-Ok.value} refl c.if-rest-input.false d t)

pub returns-in-Ok : goal.returns-in-Ok
returns-in-Ok g c =
    rw c.in-Ok.is (rw c.in_ok-push_item-in-Ok.ensures.items (in_order (λ _. c.in_ok-check_order-in-Ok.ensures.ok) (one_more refl c.if-rest-input.false)))

-- a value that finds no room
no_place : {O E : Type 0} (from_error_kind_gives : Bor (List ℕ) → ErrorKind → E → Type 0) (from_gives : BerError → E → Type 0) (before : List ℕ) (p r : Bor (List ℕ)) (v : O)
    (vs us : List O) → length r.now < length p.now → ¬ Descends before (taken p.now r.now) → TakesInOrder from_error_kind_gives from_gives before p (Ok (r, v)) vs (Err OutOfMemory) us
no_place k h before p r v vs us l n = in_order (λ _. n) (no_item (no_room {r = r} {v = v} (refl, refl) refl l))

pub returns-in_err-push_item-in-Ok : goal.returns-in_err-push_item-in-Ok
returns-in_err-push_item-in-Ok g c =
    rw c.in-Ok.is (search (rules, no_place g.E.ParseError.from_error_kind_gives g.E.From.from_gives c.args.before.now c.args.input c.in-Ok.rest c.in-Ok.value c.args.values.now.items c.args.values.now.items c.if-rest-input.false c.in_ok-check_order-in-Ok.ensures.ok))

pub returns-then-not-is_empty : goal.returns-then-not-is_empty
returns-then-not-is_empty g c = rw (c.in-Err-Incomplete.is, c.in-Err-Incomplete.field-0-is)
    (in_order tt (no_item (left_over (refl, refl) refl (search rules) c.from_error_kind-then-not-is_empty.ensures)))

pub returns-in-Err-Incomplete : goal.returns-in-Err-Incomplete
returns-in-Err-Incomplete g c =
    rw (c.in-Err-Incomplete.is, c.in-Err-Incomplete.field-0-is) (in_order tt (ended (at_end (refl, refl) refl (search rules))))

pub returns-in-Err-Error : goal.returns-in-Err-Error
returns-in-Err-Error g c = rw (c.in-Err-Error.is, c.in-Err-Error.field-0-is) (in_order tt (no_item (refused (refl, refl) refl)))

pub returns-in-Err-Failure : goal.returns-in-Err-Failure
returns-in-Err-Failure g c = rw (c.in-Err-Failure.is, c.in-Err-Failure.field-0-is) (in_order tt (no_item (failed (refl, refl) refl)))

pub returns-in-Err-OutOfMemory : goal.returns-in-Err-OutOfMemory
returns-in-Err-OutOfMemory g c =
    rw (c.in-Err-OutOfMemory.is, c.in-Err-OutOfMemory.field-0-is) (in_order tt (no_item (out_of_memory (refl, refl) refl)))
