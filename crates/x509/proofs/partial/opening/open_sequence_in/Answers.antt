use Rattle.x509.proofs.PartialLaws.OpeningLaws.{inside_of, none_outside}
use Rattle.x509.proofs.partial.opening.open_sequence_in.Goals as goal

pub returns-in-Some : goal.returns-in-Some
returns-in-Some c = inside_of c.args.class c.args.tag.0 c.open-in-Some.result c.in-Some.ensures c.open-in-Some.ensures

pub returns-in-None : goal.returns-in-None
returns-in-None c = none_outside c.args.class c.args.tag.0 c.in-None.ensures
