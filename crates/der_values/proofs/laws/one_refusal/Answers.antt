use Rattle.der_values.proofs.LawsLaws.StatedLaws.{one_ber_refusal, one_der_refusal}
use Rattle.der_values.proofs.laws.one_refusal.Goals as goal

pub returns-clause-ber : goal.returns-clause-ber
returns-clause-ber c = one_ber_refusal

pub returns-clause-der : goal.returns-clause-der
returns-clause-der c = one_der_refusal
