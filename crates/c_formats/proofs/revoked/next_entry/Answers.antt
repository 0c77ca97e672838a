use Rattle.std.proofs.Common.{refl, subst}
use Rattle.x509.specs.Crl.Lists.{revoked_certificate}
use Rattle.x509.specs.Lists.{BeginsWithNone}
use Rattle.c_formats.proofs.revoked.next_entry.Goals as goal

pub returns-in_default : goal.returns-in_default
returns-in_default c = (subst (λ i. BeginsWithNone revoked_certificate i) c.iter-entries.ensures.octets c.in_default.ensures.steps.0, refl)
