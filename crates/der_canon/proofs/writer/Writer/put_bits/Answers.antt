use Rattle.std.proofs.Common.{[], ◌∷◌, subst}
use Rattle.der_writer.specs.Octets.{cleared}
use Rattle.der_canon.specs.Writing.{Puts}
use Rattle.der_canon.proofs.Buffers.{puts_both, puts_none}
use Rattle.der_canon.proofs.Puts.{last_cleared, no_octets}
use Rattle.der_canon.proofs.writer.Writer.put_bits.Goals as goal

pub returns-in-Some : goal.returns-in-Some
returns-in-Some c =
    let all = puts_both c.in-Some.others.now (c.without_unused.result ∷ []) _ _ _ _ _ _ c.put.ensures c.put-in-Some.ensures in
    subst (λ z. Puts z c.args.self.now c.args.out.now c.put-in-Some.new.self c.put-in-Some.new.out)
    (last_cleared c.args.unused c.in-Some.last.now c.without_unused.result c.args.bits.now c.in-Some.others.now c.in-Some.ensures.cases.0 c.without_unused.ensures) all

pub returns-in_default : goal.returns-in_default
returns-in_default c =
    subst (λ z. Puts (cleared c.args.unused z) c.args.self.now c.args.out.now c.args.self.now c.args.out.now) (no_octets c.args.bits.now c.in_default.ensures.cases) (puts_none c.args.self.now c.args.out.now)
