use Rattle.std.proofs.Common.{◌≡◌, ◌≢◌, ◌<◌, Err, Global, IfOk, IsErrAnd, List, Ok, Option, Result, Vec, inl, inr, rules, ℕ}
use Rattle.der_input.specs.declared.error.FormError.{FormError}
use Rattle.der_input.specs.declared.error.FormError.TheVariants as error
use Rattle.der_input.specs.declared.form.Form.{Form}
use Rattle.der_input.specs.declared.form.Form.TheVariants.{Pem}
use Rattle.der_cli.specs.Inputs.{Decodes, FailsAtBlock, IsDecoded, IsFormOf, IsUndecoded, JoinsBlocks, Spells, without_form, without_octets}
use Rattle.der_cli.proofs.Opening.{on_decoded, on_found, reason_left}
use Rattle.der_cli.proofs.decode.octets_in.Goals as goal

decodes_so : {E : Type 0} (r : Result (Vec ℕ Global) E) (asked : Option Form) (i : List ℕ) (form : Form) → IsFormOf asked i form → IfOk r (λ v. Decodes form i v.items)
    → IfOk r (λ v. IsDecoded asked i v.items)
decodes_so (Ok v) asked i form of d = (form, of, d)
decodes_so (Err e) asked i form of d = tt

not_found : {A E P : Type 0} {v : A} {e : E} → Err e ≡ Ok v → P
not_found same = cc

pub returns-in-Ok-Pem : goal.returns-in-Ok-Pem
returns-in-Ok-Pem g c =
    let i = c.args.input.now in
    let form = rw c.in-Ok-Pem.field-0-is at c.in-Ok-Pem.ensures.found in
    on_found c.octets_of_blocks.result (FailsAtBlock i) (IsUndecoded c.args.asked i) (λ (v : Vec ℕ Global). (n : ℕ) × (0 < n) × JoinsBlocks n i v.items)
    (λ v. IsDecoded c.args.asked i v.items) (λ fails. inr (form, fails)) (λ v joins. (Pem, form, joins)) c.octets_of_blocks.ensures

pub returns-in-Ok : goal.returns-in-Ok
returns-in-Ok g c =
    let i = c.args.input.now in
    let asked = c.args.asked in
    let form = c.in-Ok.form in
    let of = c.in-Ok.ensures.found in
    let other : form ≢ Pem = search rules in
    on_decoded c.decoded.result c.octets_or_report.result (IsUndecoded asked i) (λ (v : Vec ℕ Global). IsDecoded asked i v.items)
    (λ failed. inl (without_octets form of other (reason_left c.decoded.result ((w : List ℕ) → ¬ Spells form i w) failed (c.decoded.ensures.err other))))
    (decodes_so c.decoded.result asked i form of (c.decoded.ensures.ok other)) c.octets_or_report.ensures

pub returns-in-Err : goal.returns-in-Err
returns-in-Err g c =
    let i = c.args.input.now in
    let asked = c.args.asked in
    let e = c.in-Err.e in
    let none = c.in-Err.ensures.none in
    let failed : Result (Vec ℕ Global) FormError = Err e in
    on_found c.octets_or_report-in-Err.result (IsErrAnd failed (λ x. x ≢ error.OutOfMemory)) (IsUndecoded asked i) (λ v. failed ≡ Ok v)
    (λ (v : Vec ℕ Global). IsDecoded asked i v.items) (λ other. inl (without_form e none.0 none.1)) (λ v same. not_found same) c.octets_or_report-in-Err.ensures
