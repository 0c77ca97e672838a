use Rattle.c_values.proofs.Firsts.{der_first_lies_within, ber_first_lies_within}
use Rattle.c_values.proofs.laws.first_lies_within.Goals as goal

pub returns-clause-der : goal.returns-clause-der
returns-clause-der c = der_first_lies_within

pub returns-clause-ber : goal.returns-clause-ber
returns-clause-ber c = ber_first_lies_within
