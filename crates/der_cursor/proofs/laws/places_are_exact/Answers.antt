use Rattle.der_cursor.proofs.PlaceLaws.{places_count, new_stand, ends_stand, opened_stand}
use Rattle.der_cursor.proofs.laws.places_are_exact.Goals as goal

pub returns-clause-places : goal.returns-clause-places
returns-clause-places c = places_count

pub returns-clause-new : goal.returns-clause-new
returns-clause-new c = new_stand

pub returns-clause-read : goal.returns-clause-read
returns-clause-read c = ends_stand

pub returns-clause-opened : goal.returns-clause-opened
returns-clause-opened c = opened_stand
