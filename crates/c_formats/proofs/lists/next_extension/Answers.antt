use Rattle.std.proofs.Common.{refl}
use Rattle.x509.proofs.CertificateLaws.{extension_exact}
use Rattle.x509.proofs.ListLaws.{no_item}
use Rattle.c_formats.proofs.lists.next_extension.Goals as goal

pub returns-in_default : goal.returns-in_default
returns-in_default c = (no_item extension_exact c.new-list.ensures c.in_default.ensures.reads, refl)
