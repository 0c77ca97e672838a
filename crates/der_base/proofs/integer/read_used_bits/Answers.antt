use Rattle.std.proofs.Common.{◌≤◌, ◌*◌, ◌-◌, ◌/◌, ◌%◌, ◌^◌, ap, ◌∙◌, length, ⊎_elim, pos, arith, refl, inl, inr}
use Rattle.std.proofs.lemmas.Bool.{cases_lt}
use Rattle.std.proofs.lemmas.Grind.{div_ceil_times}
use Rattle.std.proofs.lemmas.Int.{ints}
use Rattle.der_base.proofs.AllByRecursion.{Each}
use Rattle.der_base.proofs.Octets.Shortest.{IsOctet}
use Rattle.der_base.proofs.Octets.ShortestLengths.{bytes_from}
use Rattle.der_base.proofs.Octets.UsedBits.{used_length, used_value, used_fits, bits_fit}
use Rattle.der_base.proofs.integer.read_used_bits.Goals as goal
use Rattle.der_base.proofs.integer.read_used_bits.Goals.{in_default-via-in-Some+else-used-le8, in_default-via-in_default}

pub returns-in-Some : goal.returns-in-Some
returns-in-Some c =
    let u = c.args.unused in
    let w = c.args.octets.now in
    let q = c.from-2.result in
    let are : Each IsOctet w = bytes_from w (λ k. omega (arith, c.type_inv.octets k)) in
    let most : q ≤ length w = omega (arith, c.from-2.ensures, c.from.ensures, c.div_ceil.ensures, c.if-octets-from.false) in
    let few = c.if-used-le8.true in
    let size = used_length u q w are c.from-2.ensures most in
    let value = used_value u q w are c.from-2.ensures most in
    let fits = bits_fit u q w are c.from-2.ensures most few in
    let is = (c.in-Some.ensures).1 in (
      (
        (λ h. omega (arith, h, c.from.ensures, c.div_ceil.ensures, c.if-octets-from.false, (div_ceil_times u 8 (omega arith)).0)),
        (
          (λ h. omega (arith, h, few, size, c.from-2.ensures)),
          ((λ h. elim h [ inl l ↦ omega (arith, ints, l) | inr l ↦ omega (arith, ints, l, fits) ]), tt),
        ),
      ),
      ap (λ n. pos (n / 2 ^ (u % 8))) is ∙ ap pos value,
    )

pub returns-in_default : goal.returns-in_default
returns-in_default c =
    let u = c.args.unused in
    let w = c.args.octets.now in
    let q = c.from-2.result in
    let are : Each IsOctet w = bytes_from w (λ k. omega (arith, c.type_inv.octets k)) in
    let most : q ≤ length w = omega (arith, c.from-2.ensures, c.from.ensures, c.div_ceil.ensures, c.if-octets-from.false) in
    let size = used_length u q w are c.from-2.ensures most in
    let enough : u ≤ 8 * length w = omega (arith, c.from.ensures, c.div_ceil.ensures, c.if-octets-from.false, (div_ceil_times u 8 (omega arith)).0) in
    elim c.in_default.branch [
      | in_default-via-in-Some+else-used-le8 b ↦ inr ((λ h. omega (arith, h, enough)), inl (omega (arith, size, b.if-used-le8.false, c.from-2.ensures), refl))
      | in_default-via-in_default b ↦ ⊎_elim
          (λ l. inr ((λ h. omega (arith, h, enough)), inl (omega (arith, l, c.from-2.ensures), refl)))
          (λ l. absurd (b.in_default.ensures (used_fits u q w are c.from-2.ensures most (omega (arith, size, l)))))
          (cases_lt 8 (length w - q))
    ]
