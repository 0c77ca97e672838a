use Rattle.c_formats.proofs.key_kind.only_element.Goals as goal

pub returns-in-Ok : goal.returns-in-Ok
returns-in-Ok c = c.in-Ok.ensures.found

pub returns-in-Err : goal.returns-in-Err
returns-in-Err c = λ e h. c.in-Err.ensures.only e h
