use Rattle.x509.proofs.PartialLaws.OpeningLaws.{no_header, other_header}
use Rattle.x509.proofs.partial.opening.open.Goals as goal

pub returns-in_default : goal.returns-in_default
returns-in_default c = no_header c.args.class c.args.tag.0 c.in_default.ensures

pub returns-then-not-is_header_of : goal.returns-then-not-is_header_of
returns-then-not-is_header_of c = other_header c.args.class c.args.tag.0 c.in-Ok.ensures.found (λ h. let e = c.is_header_of.ensures.1 h in cc)
