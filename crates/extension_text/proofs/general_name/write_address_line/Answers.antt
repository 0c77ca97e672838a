use Rattle.std.proofs.Common.{refl}
use Rattle.extension_text.proofs.NamesLaws.WriteLaws.{along}
use Rattle.extension_text.proofs.general_name.write_address_line.Goals as goal

pub returns : goal.returns
returns g c = along c.in_ok-write_str.ensures.writes refl (along c.in_ok-write_address.ensures refl c.write.ensures.writes)
