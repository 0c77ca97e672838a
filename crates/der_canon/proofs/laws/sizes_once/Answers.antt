use Rattle.der_canon.proofs.OneSize.{size_one}
use Rattle.der_canon.proofs.laws.sizes_once.Goals as goal

pub returns : goal.returns
returns c = size_one
