use Rattle.x509.proofs.PartialLaws.WholeLaws.{have_all}
use Rattle.x509.proofs.partial.laws.certificates_have_all_fields.Goals as goal

pub returns : goal.returns
returns c = have_all
