use Rattle.std.proofs.Common.{refl}
use Rattle.extension_text.proofs.NamesLaws.WriteLaws.{next, one}
use Rattle.extension_text.proofs.general_name.write_other_name.Goals as goal

pub returns : goal.returns
returns g c = next (one c.in_ok-write_str.ensures.writes) refl (next c.in_ok-write_identifier.ensures refl (one c.write.ensures.writes))
