use Rattle.std.proofs.Common.{refl}
use Rattle.der_object.specs.Combined.{there, no_room, not_there, out_of_memory}
use Rattle.der_combinators.proofs.wrapping.may_be_absent.Goals as goal

pub returns-in-Some : goal.returns-in-Some
returns-in-Some g c = rw c.in-Ok.is (there c.in-Some.ensures)

pub returns-in-None : goal.returns-in-None
returns-in-None g c = rw c.in-Ok.is no_room

pub returns-in-OutOfMemory : goal.returns-in-OutOfMemory
returns-in-OutOfMemory g c = rw (c.in-Err.is, c.in-OutOfMemory.is) out_of_memory

pub returns-in_default : goal.returns-in_default
returns-in_default g c =
    let o = c.from_obj.ensures in
    rw c.in-Err.is (not_there c.in_default.not-OutOfMemory refl (record { header = o.header; content = o.content; tree = o.tree }))
