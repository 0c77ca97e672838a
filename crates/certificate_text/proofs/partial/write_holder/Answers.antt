use Rattle.std.proofs.Common.{refl}
use Rattle.extension_text.proofs.NamesLaws.WriteLaws.{next, one}
use Rattle.certificate_text.proofs.partial.write_holder.Goals as goal

pub returns : goal.returns
returns g c = next (one c.in_ok-write_optional_validity.ensures) refl c.write_optional_name.ensures
