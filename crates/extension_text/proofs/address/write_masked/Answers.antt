use Rattle.std.proofs.Common.{refl}
use Rattle.extension_text.proofs.NamesLaws.WriteLaws.{along}
use Rattle.extension_text.proofs.address.write_masked.Goals as goal

pub returns : goal.returns
returns g c = along c.in_ok-write_host.ensures refl (along c.in_ok-write.ensures.writes refl c.write_host-2.ensures)
