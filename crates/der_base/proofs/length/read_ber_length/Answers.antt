use Rattle.std.proofs.Common.{◌∷◌, [], refl, arith, inl}
use Rattle.der_base.proofs.Octets.LongLengths.{none_lacks}
use Rattle.der_base.proofs.length.read_ber_length.Goals as goal

pub returns-in_default : goal.returns-in_default
returns-in_default c = none_lacks c.args.s.now c.in_default.ensures.cases

pub returns-then-first-lt128 : goal.returns-then-first-lt128
returns-then-first-lt128 c = (c.in-Some.first.now ∷ [], (omega arith, inl (c.if-first-lt128.true, refl, refl)), c.in-Some.ensures.cases.0)
