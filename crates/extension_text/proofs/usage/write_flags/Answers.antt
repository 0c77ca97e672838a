use Rattle.std.proofs.Common.{refl}
use Rattle.extension_text.proofs.NamesLaws.WriteLaws.{along}
use Rattle.extension_text.proofs.usage.write_flags.Goals as goal

pub returns : goal.returns
returns g c = along c.in_ok-write_use.ensures refl (along c.in_ok-write_use-2.ensures refl (along c.in_ok-write_use-3.ensures refl (along c.in_ok-write_use-4.ensures refl (along c.in_ok-write_use-5.ensures refl (along c.in_ok-write_use-6.ensures refl (along c.in_ok-write_use-7.ensures refl (along c.in_ok-write_use-8.ensures refl c.write_use-9.ensures)))))))
