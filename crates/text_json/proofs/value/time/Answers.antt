use Rattle.std.proofs.Common.{◌≡◌, ◌∙◌, Err, IfOk, None, Ok, Result, Some, List, ap, rules, ℕ}
use Rattle.std.specs.Prelude.{◌==◌}
use Rattle.std.specs.String.{string_bytes}
use Rattle.der_print.specs.Values.{moment_text}
use Rattle.serde_json.specs.Data.{Data, string}
use Rattle.serde_json.specs.View.{view}
use Rattle.serde_json.specs.declared.value.Value.{Value}
use Rattle.text_json.specs.Json.{IsUniversalJson, moment, no_moment}
use Rattle.text_json.proofs.value.time.Goals as goal

none_is_none : {A P : Type 0} {x : A} → None ≡ Some x → P
none_is_none e = cc

told : {E : Type 0} (r : Result Value E) (t : ℕ) (w : List ℕ) (d : Data) → IfOk r (λ v. view v ≡ d)
    → ((e : Data) → e ≡ d → IsUniversalJson t w e) → IfOk r (λ v. IsUniversalJson t w (view v))
told (Ok v) t w d h f = f (view v) h
told (Err e) t w d h f = tt

pub returns-in_ok-format-in-Some : goal.returns-in_ok-format-in-Some
returns-in_ok-format-in-Some c = λ kind.
    let same : string_bytes c.in_ok-format-in-Some.field-0 ≡ moment_text (c.args.number == 23) c.in-Some.time = search rules in
    told c.string.result c.args.number c.args.octets.now _ c.string.ensures (λ d e. moment c.in-Some.time c.in-Some.ensures.found (e ∙ ap string same))

pub returns-in-None : goal.returns-in-None
returns-in-None c = λ kind. told c.text.result c.args.number c.args.octets.now _ c.text.ensures (λ d e. no_moment kind (λ x is. none_is_none (c.in-None.ensures.only x is)) e)
