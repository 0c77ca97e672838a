use Rattle.der_cursor.proofs.AnyLaws.{ber_read, der_read}
use Rattle.der_cursor.proofs.Markers.{ber_marker, der_marker}
use Rattle.der_cursor.proofs.cursor.read_any.Goals as goal

pub returns-in-Ber-clause-found : goal.returns-in-Ber-clause-found
returns-in-Ber-clause-found c = rw c.in-Ber.is (ber_read c.args.i.now c.from_ber.result c.from_ber.ensures.found)

pub returns-in-Der-clause-found : goal.returns-in-Der-clause-found
returns-in-Der-clause-found c = rw c.in-Der.is (der_read c.args.i.now c.from_der.result c.from_der.ensures.found)

pub returns-in-Ber-clause-marker : goal.returns-in-Ber-clause-marker
returns-in-Ber-clause-marker c = rw c.in-Ber.is (ber_marker c.args.i.now c.from_ber.result c.from_ber.ensures.found)

pub returns-in-Der-clause-marker : goal.returns-in-Der-clause-marker
returns-in-Der-clause-marker c = rw c.in-Der.is (der_marker c.args.i.now c.from_der.result c.from_der.ensures.found)
