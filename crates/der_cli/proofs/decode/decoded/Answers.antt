use Rattle.std.proofs.Common.{◌≡◌, ◌⊎◌, IfErr, IsErr, List, Ok, subst, sym, ℕ}
use Rattle.base64.specs.Engines.{standard_pad_indifferent}
use Rattle.base64.specs.GeneralPurpose.{decode_of as base64_decode_of}
use Rattle.hex.specs.Hex.{decode_of as hex_decode_of}
use Rattle.der_input.specs.declared.error.FormError.TheVariants as error
use Rattle.der_input.specs.Faults.{IsBase64Error}
use Rattle.der_input.specs.Plain.{characters_of, digits_of}
use Rattle.der_cli.specs.Inputs.{Spells}
use Rattle.der_cli.proofs.Opening.{or_memory}
use Rattle.der_cli.proofs.Refusing.{no_octets, no_octets_after}
use Rattle.der_cli.proofs.decode.decoded.Goals as goal

pub returns-in-Hex-clause-err : goal.returns-in-Hex-clause-err
returns-in-Hex-clause-err c =
    let i = c.args.input.now in
    let r = c.decode_hex.result in
    let spelled = hex_decode_of (digits_of i) in
    λ whole. subst (λ form. IfErr r (λ e. (e ≡ error.OutOfMemory) ⊎ ((w : List ℕ) → Spells form i w → ⊥))) (sym c.in-Hex.is)
    (or_memory r (λ e. (e ≡ error.Hex) × IsErr spelled) ((w : List ℕ) → ¬ (spelled ≡ Ok w)) c.decode_hex.ensures.err (λ e failed. no_octets spelled failed.1))

pub returns-in-Base64-clause-err : goal.returns-in-Base64-clause-err
returns-in-Base64-clause-err c =
    let i = c.args.input.now in
    let r = c.decode_base64.result in
    let spelled = base64_decode_of standard_pad_indifferent (characters_of i) in
    λ whole. subst (λ form. IfErr r (λ e. (e ≡ error.OutOfMemory) ⊎ ((w : List ℕ) → Spells form i w → ⊥))) (sym c.in-Base64.is)
    (or_memory r (IsBase64Error i) ((w : List ℕ) → ¬ (spelled ≡ Ok w)) c.decode_base64.ensures.err (λ e failed. no_octets_after spelled failed.2.0 failed.2.1))
