use Rattle.std.proofs.Common.{refl, subst}
use Rattle.x509_keys.specs.Request.Requests.{attribute}
use Rattle.x509.specs.Lists.{BeginsWithNone}
use Rattle.c_formats.proofs.request.next_attribute.Goals as goal

pub returns-in_default : goal.returns-in_default
returns-in_default c = (subst (λ i. BeginsWithNone attribute i) c.iter.ensures.octets c.in_default.ensures.steps.0, refl)
