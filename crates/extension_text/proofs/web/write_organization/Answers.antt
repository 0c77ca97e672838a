use Rattle.std.proofs.Common.{refl}
use Rattle.extension_text.proofs.NamesLaws.WriteLaws.{along}
use Rattle.extension_text.proofs.web.write_organization.Goals as goal

pub returns : goal.returns
returns g c = along c.in_ok-write_plain.ensures refl (along c.in_ok-write_plain-2.ensures refl (along c.in_ok-write_optional_plain.ensures refl c.write_plain-3.ensures))
