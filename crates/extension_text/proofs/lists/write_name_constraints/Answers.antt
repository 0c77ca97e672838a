use Rattle.std.proofs.Common.{refl}
use Rattle.extension_text.proofs.NamesLaws.WriteLaws.{next}
use Rattle.extension_text.proofs.lists.write_name_constraints.Goals as goal

pub returns : goal.returns
returns g c = next c.in_ok-write_optional_subtrees.ensures refl c.write_optional_subtrees-2.ensures
