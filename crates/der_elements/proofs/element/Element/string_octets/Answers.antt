use Rattle.std.proofs.Common.{rules}
use Rattle.der_elements.proofs.Strings.{in_bit_string}
use Rattle.der_elements.proofs.element.Element.string_octets.Goals as goal

pub returns-in-3 : goal.returns-in-3
returns-in-3 c = in_bit_string c.args.self.now c.in-Some.content c.after_zero.result (search rules) (search rules) c.in-Some.is c.in-3.is c.after_zero.ensures
