use Rattle.std.proofs.Common.{◌∙◌, ap, refl, sym}
use Rattle.extension_text.proofs.NamesLaws.WriteLaws.{next, one, restated}
use Rattle.extension_text.specs.Extensions.{distances_text}
use Rattle.extension_text.proofs.ItemLaws.{natural_is}
use Rattle.extension_text.proofs.lists.GeneralSubtreeInWords.write.Goals as goal

pub returns : goal.returns
returns g c =
    let subtree = c.args.self.now in
    next c.in_ok-write_general_name.ensures refl
    (restated (λ t x. x ∙ ap (distances_text subtree.minimum) (sym (natural_is subtree.maximum))) (one c.write_distances.ensures))
