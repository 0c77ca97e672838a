use Rattle.std.proofs.Common.{refl}
use Rattle.extension_text.proofs.NamesLaws.WriteLaws.{next, one, restated}
use Rattle.extension_text.proofs.ItemLaws.{of_values}
use Rattle.extension_text.proofs.lists.write_optional_subtrees.Goals as goal

pub returns-in_ok-write_str-in-Some : goal.returns-in_ok-write_str-in-Some
returns-in_ok-write_str-in-Some g c = rw c.in-Some.is (next (one c.in_ok-write_str-in-Some.ensures.writes) refl (restated (λ t x. of_values x) c.write_items.ensures))
