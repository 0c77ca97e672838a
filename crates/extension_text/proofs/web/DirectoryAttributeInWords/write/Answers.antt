use Rattle.std.proofs.Common.{refl}
use Rattle.extension_text.proofs.NamesLaws.WriteLaws.{next, restated}
use Rattle.extension_text.proofs.ItemLaws.{of_values}
use Rattle.extension_text.proofs.web.DirectoryAttributeInWords.write.Goals as goal

pub returns : goal.returns
returns g c = next c.in_ok-write_identifier_line.ensures refl (restated (λ t x. of_values x) c.write_items.ensures)
