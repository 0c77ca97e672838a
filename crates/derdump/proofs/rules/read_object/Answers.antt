use Rattle.derdump.proofs.Reading.{ber_element, der_element}
use Rattle.derdump.proofs.rules.read_object.Goals as goal

pub returns-in-Ber-clause-exactly : goal.returns-in-Ber-clause-exactly
returns-in-Ber-clause-exactly c = rw (c.in-Ber.is) (ber_element c.parse_ber.ensures.exactly)

pub returns-in-Der-clause-exactly : goal.returns-in-Der-clause-exactly
returns-in-Der-clause-exactly c = rw (c.in-Der.is) (der_element c.parse_der.ensures.exactly)
