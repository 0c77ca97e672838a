use Rattle.oid_names.proofs.name_of.Goals as goal

pub returns-in-Ok : goal.returns-in-Ok
returns-in-Ok c = rw (← c.in-Ok.ensures.written, ← c.as_bytes.ensures.value) c.find_name.ensures
