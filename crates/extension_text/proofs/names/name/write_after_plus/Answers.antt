use Rattle.std.proofs.Common.{refl}
use Rattle.extension_text.proofs.NamesLaws.WriteLaws.{next, one}
use Rattle.extension_text.proofs.names.name.write_after_plus.Goals as goal

pub returns : goal.returns
returns g c = next (one c.in_ok-write.ensures.writes) refl c.write_attribute.ensures
