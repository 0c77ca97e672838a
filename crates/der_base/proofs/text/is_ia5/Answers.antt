use Rattle.der_base.proofs.Leaves.Texts.{ia5_of_ascii}
use Rattle.der_base.proofs.text.is_ia5.Goals as goal

pub returns : goal.returns
returns c = ia5_of_ascii c.args.content.now c.is_ascii.result c.is_ascii.ensures.cases
