use Rattle.c_formats.proofs.key_kind.first_integer.Goals as goal

pub returns-in-Ok : goal.returns-in-Ok
returns-in-Ok c = c.in-Ok.ensures.found

pub returns-in-Err : goal.returns-in-Err
returns-in-Err c = λ v h. c.in-Err.ensures.only v h
