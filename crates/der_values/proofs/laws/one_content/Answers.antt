use Rattle.der_values.proofs.LawsLaws.Leaves.OneContent.{one_content, one_der_leaf}
use Rattle.der_values.proofs.laws.one_content.Goals as goal

pub returns-clause-ber : goal.returns-clause-ber
returns-clause-ber c = one_content

pub returns-clause-der : goal.returns-clause-der
returns-clause-der c = one_der_leaf
