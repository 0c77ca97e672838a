use Rattle.std.proofs.Common.{Option, List, ℕ, ap, ◌∙◌}
use Rattle.der_schema.specs.Signs.{meets}
use Rattle.der_schema.proofs.sign.has_sign.Goals as goal

pub returns : goal.returns
returns c vs visits =
    c.meets.ensures ∙ ap (λ (o : Option (List ℕ)). meets c.args.sign.now.content o) (c.content_at.ensures vs visits)
