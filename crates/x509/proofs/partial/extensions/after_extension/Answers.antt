use Rattle.x509.proofs.CertificateLaws.{extension_exact}
use Rattle.x509.proofs.ListLaws.{no_item}
use Rattle.x509.proofs.PartialLaws.FieldLaws.{extension_next}
use Rattle.x509.proofs.partial.extensions.after_extension.Goals as goal

pub returns-in-Ok : goal.returns-in-Ok
returns-in-Ok c = rw c.remaining.ensures (extension_next c.new-list.ensures c.in-Ok.ensures.reads c.in-Ok.ensures.shorter)

pub returns-in-Err : goal.returns-in-Err
returns-in-Err c = no_item extension_exact c.new-list.ensures c.in-Err.ensures.reads
