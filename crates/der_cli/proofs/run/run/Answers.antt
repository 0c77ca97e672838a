use Rattle.std.proofs.Common.{◌≡◌, ◌≢◌, Err, IfOk, IsErr, IsOkAnd, MatchResult, Ok, Result, refl}
use Rattle.base64.specs.Engines.{standard_pad_indifferent}
use Rattle.base64.specs.GeneralPurpose.{decode_of as base64_decode_of}
use Rattle.hex.specs.Hex.{decode_of as hex_decode_of}
use Rattle.der_input.specs.declared.error.FormError.TheVariants as error
use Rattle.der_input.specs.declared.form.Form.TheVariants.{Base64, Der, Hex, Pem}
use Rattle.der_input.specs.Faults.{IsBase64Error}
use Rattle.der_input.specs.Plain.{characters_of, digits_of}
use Rattle.der_cli.specs.Inputs.{ReadsInput, RefusesInput, TakesPem, TellsWhy, blocks, octets, refused_blocks, refused_octets, undecoded_input, without_form, without_octets}
use Rattle.der_cli.specs.Outputs.{RefusesFile, WritesFile}
use Rattle.der_actions.proofs.Printing.{then_reads, then_refuses}
use Rattle.der_cli.proofs.Refusing.{no_octets, no_octets_after, of_digits, refuses_told, when_false, when_true}
use Rattle.der_cli.proofs.run.run.Goals as goal

both : {A E : Type 0} (r : Result A E) (P Q : A → Type 0) → IsOkAnd r P → IfOk r Q → (v : A) × P v × Q v
both (Ok v) P Q p q = (v, p, q)
both (Err e) P Q p q = absurd p

not_both : {A E P : Type 0} {x : A} {y : E} {r : Result A E} → r ≡ Ok x → r ≡ Err y → P
not_both p q = cc

pub returns-in-Ok-Der-clause-read : goal.returns-in-Ok-Der-clause-read
returns-in-Ok-Der-clause-read g c =
    let o = c.args.options.now in
    let i = c.args.input.now in
    let old = g.W.Write.contents c.args.out.now in
    let new = g.W.Write.contents c.act_on_file.new.out in
    let form = rw c.in-Ok-Der.field-0-is at c.in-Ok-Der.ensures.found in
    then_reads c.act_on_file.result (WritesFile o c.args.name.now i old new) (ReadsInput o c.args.name.now i old new) (λ written. octets Der i form refl written)
    c.act_on_file.ensures.written

pub returns-in-Ok-Pem-clause-read : goal.returns-in-Ok-Pem-clause-read
returns-in-Ok-Pem-clause-read g c =
    let o = c.args.options.now in
    let i = c.args.input.now in
    let name = c.args.name.now in
    let old = g.W.Write.contents c.args.out.now in
    let new = g.W.Write.contents c.act_on_blocks.new.out in
    let form = rw c.in-Ok-Pem.field-0-is at c.in-Ok-Pem.ensures.found in
    when_true c.act_on_blocks.result (TakesPem o name i old new) (ReadsInput o name i old new) c.act_on_blocks.ensures (λ k. blocks form k)

pub returns-in-Ok-Hex-clause-read : goal.returns-in-Ok-Hex-clause-read
returns-in-Ok-Hex-clause-read g c =
    let o = c.args.options.now in
    let i = c.args.input.now in
    let old = g.W.Write.contents c.args.out.now in
    let new = g.W.Write.contents c.act_on_decoded.new.out in
    let r = c.decode_hex.result in
    let form = rw c.in-Ok-Hex.field-0-is at c.in-Ok-Hex.ensures.found in
    then_reads c.act_on_decoded.result (IsOkAnd r (λ v. WritesFile o c.args.name.now v.items old new)) (ReadsInput o c.args.name.now i old new)
    (λ written. let k = both r (λ v. WritesFile o c.args.name.now v.items old new) (λ v. hex_decode_of (digits_of i) ≡ Ok v.items) written c.decode_hex.ensures.ok in octets Hex k.0.items form k.2 k.1)
    c.act_on_decoded.ensures.read

pub returns-in-Ok-Base64-clause-read : goal.returns-in-Ok-Base64-clause-read
returns-in-Ok-Base64-clause-read g c =
    let o = c.args.options.now in
    let i = c.args.input.now in
    let old = g.W.Write.contents c.args.out.now in
    let new = g.W.Write.contents c.act_on_decoded-in-Ok-Base64.new.out in
    let r = c.decode_base64.result in
    let form = rw c.in-Ok-Base64.field-0-is at c.in-Ok-Base64.ensures.found in
    then_reads c.act_on_decoded-in-Ok-Base64.result (IsOkAnd r (λ v. WritesFile o c.args.name.now v.items old new)) (ReadsInput o c.args.name.now i old new)
    (λ written.
    let k = both r (λ v. WritesFile o c.args.name.now v.items old new) (λ v. base64_decode_of standard_pad_indifferent (characters_of i) ≡ Ok v.items) written c.decode_base64.ensures.ok in
    octets Base64 k.0.items form k.2 k.1)
    c.act_on_decoded-in-Ok-Base64.ensures.read

pub returns-in-Err-clause-checked : goal.returns-in-Err-clause-checked
returns-in-Err-clause-checked g c = λ check der. not_both (c.form_in.ensures.asked _ der) c.in-Err.is

hex_is_no_pem : Hex ≢ Pem
hex_is_no_pem e = cc

base64_is_no_pem : Base64 ≢ Pem
base64_is_no_pem e = cc

pub returns-in-Ok-Der-clause-refused : goal.returns-in-Ok-Der-clause-refused
returns-in-Ok-Der-clause-refused g c =
    let o = c.args.options.now in
    let i = c.args.input.now in
    let name = c.args.name.now in
    let old = g.W.Write.contents c.args.out.now in
    let new = g.W.Write.contents c.act_on_file.new.out in
    let form = rw c.in-Ok-Der.field-0-is at c.in-Ok-Der.ensures.found in
    then_refuses c.act_on_file.result (RefusesFile o name i old new) (RefusesInput o name i old new) (λ no. refused_octets Der i form refl no) c.act_on_file.ensures.refused

pub returns-in-Ok-Pem-clause-refused : goal.returns-in-Ok-Pem-clause-refused
returns-in-Ok-Pem-clause-refused g c =
    let o = c.args.options.now in
    let i = c.args.input.now in
    let name = c.args.name.now in
    let old = g.W.Write.contents c.args.out.now in
    let new = g.W.Write.contents c.act_on_blocks.new.out in
    let form = rw c.in-Ok-Pem.field-0-is at c.in-Ok-Pem.ensures.found in
    when_false c.act_on_blocks.result (TakesPem o name i old new) (RefusesInput o name i old new) c.act_on_blocks.ensures (λ k. refused_blocks form k)

pub returns-in-Ok-Hex-clause-refused : goal.returns-in-Ok-Hex-clause-refused
returns-in-Ok-Hex-clause-refused g c =
    let o = c.args.options.now in
    let i = c.args.input.now in
    let name = c.args.name.now in
    let old = g.W.Write.contents c.args.out.now in
    let new = g.W.Write.contents c.act_on_decoded.new.out in
    let r = c.decode_hex.result in
    let form = rw c.in-Ok-Hex.field-0-is at c.in-Ok-Hex.ensures.found in
    let spelled = hex_decode_of (digits_of i) in
    then_refuses c.act_on_decoded.result (MatchResult r (λ v. RefusesFile o name v.items old new) (λ e. (e ≢ error.OutOfMemory) × TellsWhy o old new)) (RefusesInput o name i old new)
    (λ h.
    of_digits r (λ v. RefusesFile o name v.items old new) (λ v. spelled ≡ Ok v.items) (λ e. (e ≡ error.Hex) × IsErr spelled) (TellsWhy o old new) (RefusesInput o name i old new) h c.decode_hex.ensures.ok c.decode_hex.ensures.err
    (λ v spells no. refused_octets Hex v.items form spells no) (λ e failed told. undecoded_input (without_octets Hex form hex_is_no_pem (no_octets spelled failed.1)) told))
    c.act_on_decoded.ensures.refused

pub returns-in-Ok-Base64-clause-refused : goal.returns-in-Ok-Base64-clause-refused
returns-in-Ok-Base64-clause-refused g c =
    let o = c.args.options.now in
    let i = c.args.input.now in
    let name = c.args.name.now in
    let old = g.W.Write.contents c.args.out.now in
    let new = g.W.Write.contents c.act_on_decoded-in-Ok-Base64.new.out in
    let r = c.decode_base64.result in
    let form = rw c.in-Ok-Base64.field-0-is at c.in-Ok-Base64.ensures.found in
    let spelled = base64_decode_of standard_pad_indifferent (characters_of i) in
    then_refuses c.act_on_decoded-in-Ok-Base64.result (MatchResult r (λ v. RefusesFile o name v.items old new) (λ e. (e ≢ error.OutOfMemory) × TellsWhy o old new)) (RefusesInput o name i old new)
    (λ h.
    of_digits r (λ v. RefusesFile o name v.items old new) (λ v. spelled ≡ Ok v.items) (IsBase64Error i) (TellsWhy o old new) (RefusesInput o name i old new) h c.decode_base64.ensures.ok c.decode_base64.ensures.err
    (λ v spells no. refused_octets Base64 v.items form spells no)
    (λ e failed told. undecoded_input (without_octets Base64 form base64_is_no_pem (no_octets_after spelled failed.2.0 failed.2.1)) told))
    c.act_on_decoded-in-Ok-Base64.ensures.refused

pub returns-in-Err-clause-refused : goal.returns-in-Err-clause-refused
returns-in-Err-clause-refused g c =
    let none = c.in-Err.ensures.none in
    refuses_told c.refuse_file.result _ (RefusesInput c.args.options.now c.args.name.now c.args.input.now _ _) c.refuse_file.ensures.told
    (λ told. undecoded_input (without_form _ none.0 none.1) told)
