use Rattle.std.proofs.Common.{refl}
use Rattle.x509.proofs.CertificateLaws.{extension_exact}
use Rattle.x509.proofs.ListLaws.{no_item}
use Rattle.x509.proofs.lists.ExtensionIterIterator.next.Goals as goal

pub returns-in_default-clause-steps : goal.returns-in_default-clause-steps
returns-in_default-clause-steps c = (no_item extension_exact c.new-list.ensures c.in_default.ensures.reads, refl)
