use Rattle.der_values.proofs.ContentLaws.{of_primitive}
use Rattle.der_values.specs.Values.{value_content}
use Rattle.der_values.proofs.contents.read_value.Goals as goal

pub returns-else-constructed : goal.returns-else-constructed
returns-else-constructed c =
    of_primitive value_content c.args.rules c.args.constructed c.args.tag.0 c.args.octets.now c.read_primitive.result c.if-constructed.false c.requires.no_list c.read_primitive.ensures
