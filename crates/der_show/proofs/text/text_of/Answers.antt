use Rattle.std.proofs.Common.{◌++◌, List, ℕ, ap, refl, ◌∙◌}
use Rattle.std.proofs.lemmas.Fmt.{contents_after_writes}
use Rattle.std.proofs.lemmas.Option.{IfSome_then}
use Rattle.der_show.specs.declared.text.Text.{Text}
use Rattle.der_show.proofs.text.text_of.Goals as goal

abbrev octets_in : Text → List ℕ
octets_in t = t.octets.items

pub returns-in-Ok : goal.returns-in-Ok
returns-in-Ok g c =
    IfSome_then (g.D.Display.output c.args.value) c.in-Ok.ensures.writes
    (λ text k. ap octets_in c.into_inner.ensures ∙ contents_after_writes _ octets_in (λ _ _ _ t. t) _ text _ (k c.new-f.ensures.plain refl).wrote
    ∙ ap (λ w. w ++ text) (ap octets_in c.new-f.ensures.writer ∙ c.new.ensures))
