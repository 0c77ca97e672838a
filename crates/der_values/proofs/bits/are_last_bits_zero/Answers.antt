use Rattle.std.proofs.Common.{length, arith, ap}
use Rattle.std.proofs.lemmas.Bool.Decides.{nat_tests}
use Rattle.der_values.proofs.LawsLaws.Octets.LastBits.{unused_from_last, last_from_unused}
use Rattle.der_values.proofs.UnusedBits.{small_power}
use Rattle.der_values.proofs.bits.are_last_bits_zero.Goals as goal

pub returns-in-len1-up : goal.returns-in-len1-up
returns-in-len1-up c =
    let u = c.args.count in
    let w = c.args.octets.now in
    let power = small_power u c.requires in
    rw power (
      (λ h. unused_from_last u w (c.requires, (λ e. absurd (omega (arith, c.in-len1-up.len_at_least, ap length e))), grind (arith, nat_tests, h))),
      (λ h. let k = (last_from_unused u w h).2 in grind (arith, nat_tests, k)),
    )
