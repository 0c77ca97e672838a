use Rattle.der_values.proofs.LawsLaws.Leaves.NumberLaws.{number_or_refused, numbers_pass, one_number_refusal, numbers_fit}
use Rattle.der_values.proofs.laws.numbers_fit_or_are_refused.Goals as goal

pub returns-clause-always : goal.returns-clause-always
returns-clause-always c = number_or_refused

pub returns-clause-never_both : goal.returns-clause-never_both
returns-clause-never_both c = numbers_pass

pub returns-clause-once : goal.returns-clause-once
returns-clause-once c = one_number_refusal

pub returns-clause-fits : goal.returns-clause-fits
returns-clause-fits c = numbers_fit
