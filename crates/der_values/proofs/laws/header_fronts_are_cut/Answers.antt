use Rattle.der_values.proofs.LawsLaws.Headers.StableHeaders.{ber_header_fronts_are_cut, der_header_fronts_are_cut}
use Rattle.der_values.proofs.laws.header_fronts_are_cut.Goals as goal

pub returns-clause-ber : goal.returns-clause-ber
returns-clause-ber c = ber_header_fronts_are_cut

pub returns-clause-der : goal.returns-clause-der
returns-clause-der c = der_header_fronts_are_cut
