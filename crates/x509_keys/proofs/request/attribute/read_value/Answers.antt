use Rattle.x509_keys.proofs.RequestLaws.RequestLaws.{any_shortens}
use Rattle.x509.proofs.ReaderLaws.{any_read}
use Rattle.x509_keys.proofs.request.attribute.read_value.Goals as goal

pub returns : goal.returns
returns c = record { reads = any_read c.any.ensures; shorter = any_shortens _ _ _ c.any.ensures }
