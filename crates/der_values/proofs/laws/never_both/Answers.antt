use Rattle.der_values.proofs.LawsLaws.Leaves.NeverBoth.{never_both_ber, never_both_der}
use Rattle.der_values.proofs.laws.never_both.Goals as goal

pub returns-clause-ber : goal.returns-clause-ber
returns-clause-ber c = never_both_ber

pub returns-clause-der : goal.returns-clause-der
returns-clause-der c = never_both_der
