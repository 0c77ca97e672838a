use Rattle.der_values.proofs.LawsLaws.Headers.StableHeaders.{ber_refused_begins_none, der_refused_begins_none}
use Rattle.der_values.proofs.laws.refused_headers_stay_refused.Goals as goal

pub returns-clause-ber : goal.returns-clause-ber
returns-clause-ber c = ber_refused_begins_none

pub returns-clause-der : goal.returns-clause-der
returns-clause-der c = der_refused_begins_none
