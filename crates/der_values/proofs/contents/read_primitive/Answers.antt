use Rattle.std.proofs.Common.{rules, IsTrue}
use Rattle.der_base.specs.Text.{is_text_type}
use Rattle.der_values.proofs.ContentLaws.{text_read}
use Rattle.der_values.proofs.contents.read_primitive.Goals as goal

pub returns-in_ok-read_text-in_default : goal.returns-in_ok-read_text-in_default
returns-in_ok-read_text-in_default c =
    let t = c.args.tag.0 in
    let text : IsTrue (is_text_type t) = search rules in
    text_read c.args.rules t c.args.octets.now _ _ text c.text_value.ensures c.in_ok-read_text-in_default.ensures
