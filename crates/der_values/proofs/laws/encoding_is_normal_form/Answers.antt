use Rattle.der_values.proofs.LawsLaws.Spellings.NormalForm.{encoding_normal_form}
use Rattle.der_values.proofs.laws.encoding_is_normal_form.Goals as goal

pub returns : goal.returns
returns c = encoding_normal_form
