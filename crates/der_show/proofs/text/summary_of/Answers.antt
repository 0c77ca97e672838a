use Rattle.std.proofs.Common.{◌++◌, List, ℕ, ap, refl, ◌∙◌}
use Rattle.std.proofs.lemmas.Fmt.{contents_after_writes}
use Rattle.der_show.specs.declared.text.Text.{Text}
use Rattle.der_show.proofs.text.summary_of.Goals as goal

abbrev octets_in : Text → List ℕ
octets_in t = t.octets.items

pub returns-in-Ok-clause-text : goal.returns-in-Ok-clause-text
returns-in-Ok-clause-text c =
    let k = c.in-Ok.ensures.text c.new-f.ensures.plain refl in
    let all = ap octets_in c.into_inner.ensures ∙ contents_after_writes _ octets_in (λ _ _ _ t. t) _ k.0 _ k.2.wrote
    ∙ ap (λ w. w ++ k.0) (ap octets_in c.new-f.ensures.writer ∙ c.new.ensures) in
    rw all k.1
