use Rattle.std.proofs.Common.{refl}
use Rattle.extension_text.proofs.NamesLaws.WriteLaws.{next, one}
use Rattle.certificate_text.proofs.partial.write_partial.Goals as goal

pub returns : goal.returns
returns g c = next (one c.in_ok-write_str.ensures.writes) refl (next c.in_ok-write_identity.ensures refl (next c.in_ok-write_holder.ensures refl (next c.in_ok-write_optional_key.ensures refl (next (one c.in_ok-write_ids.ensures) refl c.write_extensions.ensures))))
