-- What is decoded of a block that was found.
use Rattle.std.proofs.Common.{◌≡◌, ℕ, List, Option, Some, None, ap, ◌∙◌}
use Rattle.std.specs.Borrow.{Bor}
use Rattle.std.specs.Prelude.{Result, Ok, Err}
use Rattle.der_input.specs.declared.error.FormError.{FormError}
use Rattle.der_input.specs.declared.pem.Block.{Block}
use Rattle.c_values.specs.declared.octets.DmOctets.{DmOctets}
use Rattle.c_values.specs.declared.pem.DmPem.{DmPem}
use Rattle.c_values.specs.Pem.{TakesBlock}
use Rattle.c_formats.specs.Decode.{DecodesFound}

-- a struct that was of no octets has the number of those that were decoded
pub found_decoded : (found : Result (Option (Block × Bor (List ℕ))) FormError) (old new : DmOctets) (block block' : DmPem) (n : ℕ) (octets : List ℕ) (k : ℕ) → block.length ≡ 0
    → TakesBlock found old new block block' n octets k → DecodesFound found n octets block'.length k
found_decoded (Ok (Some b)) old new block block' n octets k z t = (t.1.1, t.1.2, t.1.3)
found_decoded (Ok None) old new block block' n octets k z t = (ap (λ d. d.length) t.1 ∙ z, t.2)
found_decoded (Err e) old new block block' n octets k z t = (ap (λ d. d.length) t.1 ∙ z, t.2)
