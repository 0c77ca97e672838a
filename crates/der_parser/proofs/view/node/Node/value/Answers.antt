use Rattle.std.proofs.Common.{◌≡◌, rules, false, IsTrue}
use Rattle.der_base.specs.declared.header.Class.TheVariants.{Universal}
use Rattle.der_base.specs.Leaf.{is_list, is_mapped}
use Rattle.der_parser.proofs.ViewLaws.ReadValues.{read_of_node}
use Rattle.der_parser.specs.Viewing.Views.{view}
use Rattle.der_parser.proofs.view.node.Node.value.Goals as goal

pub returns-in_default : goal.returns-in_default
returns-in_default c =
    let v = view c.args.self.now in
    let universal : v.element.class ≡ Universal = search rules in
    let mapped : IsTrue (is_mapped c.tag-tag.result.0) = search rules in
    let no_list : is_list c.tag-tag.result.0 ≡ false = search rules in
    read_of_node v c.is_constructed-in_default.result c.tag-tag.result.0 c.content-in_default.result.now c.read_value.result universal mapped no_list
    c.is_constructed-in_default.ensures c.tag-tag.ensures c.content-in_default.ensures c.read_value.ensures
