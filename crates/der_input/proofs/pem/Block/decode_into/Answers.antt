use Rattle.std.proofs.Common.{inl, inr, refl}
use Rattle.der_input.proofs.pem.Block.decode_into.Goals as goal

pub returns-then-is_encrypted : goal.returns-then-is_encrypted
returns-then-is_encrypted c = inl (c.is_encrypted.ensures.0 c.if-is_encrypted.true, refl)

pub returns : goal.returns
returns c = inr ((λ h. let t = c.is_encrypted.ensures.1 h in let q = c.if-is_encrypted.false in cc), c.decode_base64_into.ensures.decoded)
