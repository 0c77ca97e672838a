use Rattle.std.proofs.Common.{refl}
use Rattle.extension_text.proofs.NamesLaws.WriteLaws.{along}
use Rattle.extension_text.proofs.points.write_scope.Goals as goal

pub returns : goal.returns
returns g c = along c.in_ok-write_true.ensures refl (along c.in_ok-write_true-2.ensures refl (along c.in_ok-write_optional_reasons.ensures refl (along c.in_ok-write_true-3.ensures refl c.write_true-4.ensures)))
