use Rattle.std.proofs.Common.{rules, of_calls, refl, [], arith}
use Rattle.std.proofs.lemmas.Result.{err_from_is_err_and}
use Rattle.der_base.specs.ListSteps.{no_call}
use Rattle.der_combinators.proofs.ItemLaws.{compared_first, item_on, item_end, item_refused}
use Rattle.der_combinators.proofs.items.read_objects.Goals as goal

pub loop-objects-init : goal.loop-objects-init
loop-objects-init g c = (search rules, [], rw c.new-objects.ensures.items no_call, compared_first c.args.rules c.args.list)

pub returns-in_err-rest-clause-err : goal.returns-in_err-rest-clause-err
returns-in_err-rest-clause-err g c =
    let p = err_from_is_err_and c.from_residual.result c.from_residual.ensures.1 in
    let i = c.loop-objects.invariant in
    rw (p.1, p.2) (item_refused _ c.f.ensures i.2 refl c.args.rules c.args.list i.3 {us = c.take_item.new.values.items} c.in_err-rest.ensures)

pub slice_bounds-compared_octets-count : goal.slice_bounds-compared_octets-count
slice_bounds-compared_octets-count g c =
    let i = c.loop-objects.invariant in
    let n = item_on _ c.f.ensures i.2 refl c.args.rules c.args.list i.3 {us = c.take_item.new.values.items} (rw c.in-Some.is at c.in_ok-rest.ensures) in
    omega (arith, n.0)

pub loop-objects-smaller : goal.loop-objects-smaller
loop-objects-smaller g c =
    let i = c.loop-objects.invariant in
    (item_on _ c.f.ensures i.2 refl c.args.rules c.args.list i.3 {us = c.take_item.new.values.items} (rw c.in-Some.is at c.in_ok-rest.ensures)).0

pub loop-objects-preserved : goal.loop-objects-preserved
loop-objects-preserved g c =
    let i = c.loop-objects.invariant in
    let n = item_on _ c.f.ensures i.2 refl c.args.rules c.args.list i.3 {us = c.take_item.new.values.items} (rw c.in-Some.is at c.in_ok-rest.ensures) in
    (search of_calls, n.1, n.2, rw c.compared_octets-before.ensures n.3)

pub returns-clause-ok : goal.returns-clause-ok
returns-clause-ok g c =
    let i = c.loop-objects.invariant in
    item_end _ c.f.ensures i.2 refl c.args.rules c.args.list i.3 {us = c.take_item.new.values.items} (rw c.in_default.is at c.in_ok-rest.ensures)
