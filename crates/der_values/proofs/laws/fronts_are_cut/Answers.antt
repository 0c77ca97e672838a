use Rattle.der_values.proofs.LawsLaws.Spellings.FrontsAreCut.{ber_fronts_are_cut, der_fronts_are_cut}
use Rattle.der_values.proofs.laws.fronts_are_cut.Goals as goal

pub returns-clause-ber : goal.returns-clause-ber
returns-clause-ber c = ber_fronts_are_cut

pub returns-clause-der : goal.returns-clause-der
returns-clause-der c = der_fronts_are_cut
