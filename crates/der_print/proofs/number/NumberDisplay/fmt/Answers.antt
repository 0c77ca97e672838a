use Rattle.std.proofs.Common.{◌++◌, ◌∙◌, ap, ◌⊎◌, ◌-◌, ◌^◌, ◌<ℤ◌, codes, inl, inr, neg_ℤ, pos, sym}
use Rattle.std.proofs.Output.{has_written_of_eq}
use Rattle.der_base.specs.Octets.{integer_value}
use Rattle.der_print.specs.Values.{hex_text}
use Rattle.der_print.proofs.NumberLaws.{negative_text}
use Rattle.der_print.proofs.number.NumberDisplay.fmt.Goals as goal

pub returns-then-is_negative-clause-writes : goal.returns-then-is_negative-clause-writes
returns-then-is_negative-clause-writes g c =
    let self = c.args.self.now in
    let w = self.octets.now in
    let out : (integer_value w <ℤ neg_ℤ (pos (2 ^ 63))) ⊎ (pos (2 ^ 63 - 1) <ℤ integer_value w) = elim c.in_default.ensures [ inl h ↦ h.0 | inr h ↦ absurd h.1 ] in
    λ plain ok. has_written_of_eq _ _ _ _ _
    (ap (λ l. codes "0x" ++ hex_text l w ++ codes " (negative, in two's complement)") c.without-limit.ensures
    ∙ sym (negative_text self.limit w (integer_value w) (c.is_negative.ensures.negative c.if-is_negative.true) out))
    (c.write.ensures.writes plain ok)
