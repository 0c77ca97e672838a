use Rattle.std.proofs.Common.{[], ◌∷◌, sym, subst}
use Rattle.der_writer.specs.Octets.{cleared}
use Rattle.der_canon.specs.Values.{bits_in_der}
use Rattle.der_canon.specs.Writing.{Puts}
use Rattle.der_canon.proofs.Buffers.{puts_both, puts_none}
use Rattle.der_canon.proofs.Puts.{no_octets}
use Rattle.der_canon.proofs.writer.Writer.put_bit_string.Goals as goal

pub returns-in-Some : goal.returns-in-Some
returns-in-Some c =
    let all = puts_both (c.in-Some.unused.now ∷ []) (cleared c.in-Some.unused.now c.in-Some.bits.now) _ _ _ _ _ _ c.put.ensures c.put_bits.ensures in
    subst (λ z. Puts (bits_in_der z) c.args.self.now c.args.out.now c.put_bits.new.self c.put_bits.new.out) (sym c.in-Some.ensures.cases.0) all

pub returns-in_default : goal.returns-in_default
returns-in_default c =
    subst (λ z. Puts (bits_in_der z) c.args.self.now c.args.out.now c.args.self.now c.args.out.now) (no_octets c.args.content.now c.in_default.ensures.cases) (puts_none c.args.self.now c.args.out.now)
