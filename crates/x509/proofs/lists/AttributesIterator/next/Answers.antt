use Rattle.std.proofs.Common.{refl}
use Rattle.x509.proofs.CertificateLaws.{attribute_exact}
use Rattle.x509.proofs.ListLaws.{no_item}
use Rattle.x509.proofs.lists.AttributesIterator.next.Goals as goal

pub returns-in_default-clause-steps : goal.returns-in_default-clause-steps
returns-in_default-clause-steps c = (no_item attribute_exact c.new-attributes.ensures c.in_default.ensures.reads, refl)
