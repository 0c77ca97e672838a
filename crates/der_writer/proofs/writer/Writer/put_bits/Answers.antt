use Rattle.std.proofs.Common.{◌≡◌, List, ℕ, min, subst, rules}
use Rattle.der_writer.specs.Written.{Puts, leaf}
use Rattle.der_writer.proofs.Bits.{bits_of, no_bits}
use Rattle.der_writer.proofs.Composing.{leaf_within, puts_both, puts_same}
use Rattle.der_writer.proofs.writer.Writer.put_bits.Goals as goal

pub returns-in_default : goal.returns-in_default
returns-in_default c =
    let P : List ℕ → Type 0 = λ x. Puts (leaf c.args.self.now.implicit 3 x) c.args.self.now c.put_primitive.new.self in
    subst P (no_bits c.args.unused c.args.octets.now c.in_default.ensures.cases) c.put_primitive.ensures

pub returns : goal.returns
returns c =
    let few : c.min-unused.result ≡ min c.args.unused 7 = search rules in
    let parts = puts_both c.put_elements-3.ensures (puts_both c.put_elements-2.ensures c.put_elements.ensures) in
    leaf_within 3 c.tag_put-class.result _ c.tag_put-class.ensures.class c.tag_put-class.ensures.number c.open-bits.ensures
    (puts_same (bits_of c.args.unused _ _ _ c.args.octets.now _ few c.clear_bits.ensures c.in-Some.ensures.cases.0) parts) c.close.ensures
