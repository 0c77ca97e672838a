use Rattle.std.proofs.Common.{refl}
use Rattle.extension_text.proofs.NamesLaws.WriteLaws.{next, one}
use Rattle.certificate_text.proofs.revoked.write_list_body.Goals as goal

pub returns : goal.returns
returns g c = next (one c.in_ok-write_version.ensures) refl (next c.in_ok-write_identifier_line.ensures refl (next c.in_ok-write_name_line.ensures refl (next (one c.in_ok-write_updates.ensures) refl (next c.in_ok-write_extensions.ensures refl c.write_optional_entries.ensures))))
