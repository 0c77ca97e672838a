use Rattle.std.proofs.Common.{refl}
use Rattle.extension_text.proofs.NamesLaws.WriteLaws.{next, one}
use Rattle.extension_text.proofs.points.write_issuing_point.Goals as goal

pub returns : goal.returns
returns g c = next c.in_ok-write_issuing_name.ensures refl (one c.write_scope.ensures)
