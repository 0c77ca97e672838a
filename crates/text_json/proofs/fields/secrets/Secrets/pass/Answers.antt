use Rattle.std.proofs.Common.{◌≡◌, false, sym, true, true≢false, ap, ◌∙◌}
use Rattle.std.specs.Option.{is_some}
use Rattle.der_schema.specs.Steps.{label_of}
use Rattle.der_elements.specs.Walked.{visited_of}
use Rattle.text_json.specs.Fields.Fields.{label_after}
use Rattle.text_json.specs.Fields.Secrets.{IsSecret, is_secret}
use Rattle.text_json.proofs.FieldsLaws.OpenLaws.{inside_none, inside_one, past_inside, past_one, past_other}
use Rattle.text_json.proofs.fields.secrets.Secrets.pass.Goals as goal

pub returns-then-is_inside : goal.returns-then-is_inside
returns-then-is_inside c sc i vs h name =
    let v = visited_of c.args.element.now in
    let o = c.args.self.now.around in
    let is = sym c.is_inside.ensures ∙ c.if-is_inside.true in
    (past_inside (IsSecret sc i) vs v o h is, inside_one (IsSecret sc i) vs v o h is)

pub returns-then-is_secret : goal.returns-then-is_secret
returns-then-is_secret c sc i vs h name =
    let v = visited_of c.args.element.now in
    let o = c.args.self.now.around in
    let outside = sym c.is_inside.ensures ∙ c.if-is_inside.false in
    let secret : IsSecret sc i vs v =
    ap (λ l. is_secret l (is_some v.holds)) (sym name)
    ∙ sym (ap (λ b. is_secret (label_of c.args.name) b) c.is_some.ensures) ∙ sym c.is_secret.ensures ∙ c.if-is_secret.true in
    (past_one (IsSecret sc i) vs v o h outside secret, (inside_none (IsSecret sc i) vs v o h outside, secret))

pub returns : goal.returns
returns c sc i vs h name =
    let v = visited_of c.args.element.now in
    let o = c.args.self.now.around in
    let outside = sym c.is_inside.ensures ∙ c.if-is_inside.false in
    let other : is_secret (label_after sc i vs v) (is_some v.holds) ≡ false =
    ap (λ l. is_secret l (is_some v.holds)) (sym name)
    ∙ sym (ap (λ b. is_secret (label_of c.args.name) b) c.is_some.ensures) ∙ sym c.is_secret.ensures ∙ c.if-is_secret.false in
    let no : IsSecret sc i vs v → ⊥ = λ s. true≢false (sym s ∙ other) in
    (past_other (IsSecret sc i) vs v o h outside no, (inside_none (IsSecret sc i) vs v o h outside, no))
