use Rattle.extension_text.proofs.NamesLaws.WriteLaws.{restated}
use Rattle.extension_text.proofs.ItemLaws.{of_values}
use Rattle.extension_text.proofs.policies.write_optional_qualifiers.Goals as goal

pub returns-in-Some : goal.returns-in-Some
returns-in-Some g c = rw c.in-Some.is (restated (λ t x. of_values x) c.write_items.ensures)
