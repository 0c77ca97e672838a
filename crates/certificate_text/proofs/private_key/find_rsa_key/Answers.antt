use Rattle.certificate_text.proofs.private_key.find_rsa_key.Goals as goal

pub returns-in-Ok : goal.returns-in-Ok
returns-in-Ok c = c.in-Ok.ensures.found

pub returns-in-Err : goal.returns-in-Err
returns-in-Err c = λ v h. c.in-Err.ensures.only v h
