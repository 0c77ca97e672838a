use Rattle.std.proofs.Common.{◌≡◌, Err, IfOk, None, Ok, Option, Result, Some, List, rules, subst, ℕ}
use Rattle.std.specs.Prelude.{option_map}
use Rattle.std.specs.String.{string_bytes}
use Rattle.der_print.specs.Texts.{content_of}
use Rattle.der_elements.specs.Visits.{Visited}
use Rattle.der_elements.specs.Walked.{visited_of}
use Rattle.text_json.specs.Json.{IsPrimitive, IsTimestamp, IsTimestampOf}
use Rattle.text_json.proofs.members.time_in.Goals as goal

of_primitive : (v : Visited) (w w' : List ℕ) (time : Option (List ℕ)) → IsPrimitive v → w ≡ w' → IsTimestamp v.number w time → IsTimestampOf v w' time
of_primitive v w w' (Some x) p e h = (p, subst (λ u. IsTimestamp v.number u (Some x)) e h)
of_primitive v w w' None p e h = λ q. subst (λ u. IsTimestamp v.number u None) e h

at_ok : {A E : Type 0} (r : Result A E) (P Q : A → Type 0) → ((x : A) → P x → Q x) → IfOk r P → IfOk r Q
at_ok (Ok x) P Q f h = f x h
at_ok (Err e) P Q f h = tt

pub returns : goal.returns
returns c =
    let v = visited_of c.args.element.now in
    let w = c.octets_or_none.result.now in
    at_ok c.timestamp.result (λ time. IsTimestamp v.number w (option_map string_bytes time)) (λ time. IsTimestampOf v (content_of c.args.element.now) (option_map string_bytes time))
    (λ time h. of_primitive v w (content_of c.args.element.now) (option_map string_bytes time) (search rules, c.if-element.false) c.octets_or_none.ensures h) c.timestamp.ensures
