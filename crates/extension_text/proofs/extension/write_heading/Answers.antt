use Rattle.std.proofs.Common.{◌++◌, ap, codes, refl, ◌∙◌}
use Rattle.extension_text.proofs.NamesLaws.WriteLaws.{next, one, restated}
use Rattle.extension_text.proofs.extension.write_heading.Goals as goal

pub returns : goal.returns
returns g c =
    let word = restated (λ t x. x ∙ ap (λ w. w ++ codes "\n") c.critical_word.ensures) (one c.write.ensures.writes) in
    next (one c.in_ok-write_str.ensures.writes) refl (next c.in_ok-write_identifier.ensures refl word)
