use Rattle.std.proofs.Common.{◌++◌, ◌∙◌, ap, arith}
use Rattle.hex.specs.Hex.{IsBytes}
use Rattle.der_text.proofs.Printed.{pushed_hexadecimal}
use Rattle.der_text.proofs.write.write_hexadecimal.Goals as goal

pub returns-clause-puts : goal.returns-clause-puts
returns-clause-puts c =
    let bytes : IsBytes c.args.octets.now = λ i. let f = c.type_inv.octets i in omega (arith, f) in
    pushed_hexadecimal c.args.octets.now c.in_ok-push.ensures.items
    (c.in_ok-extend_from_slice.ensures.items ∙ ap (λ d. c.push.new.self.items ++ d) c.digits_of-digits.ensures)
    c.in_ok-extend_from_slice-2.ensures.items bytes
