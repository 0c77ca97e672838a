use Rattle.der_actions.proofs.listing.Listing.follow.Goals as goal

pub returns-in-Some-clause-follows : goal.returns-in-Some-clause-follows
returns-in-Some-clause-follows c = rw c.in-Some.is c.follow_to.ensures
