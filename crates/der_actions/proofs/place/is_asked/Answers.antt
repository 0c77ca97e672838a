use Rattle.der_actions.proofs.place.is_asked.Goals as goal

pub returns-in-Some : goal.returns-in-Some
returns-in-Some c = rw c.in-Some.is c.is_at.ensures
