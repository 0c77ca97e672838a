use Rattle.der_values.proofs.ContentLaws.{constructed_refused}
use Rattle.der_values.proofs.contents.read_constructed.Goals as goal

pub returns-in-Der : goal.returns-in-Der
returns-in-Der c = rw c.in-Der.is (constructed_refused c.args.tag.0 c.args.octets.now c.requires.no_list)
