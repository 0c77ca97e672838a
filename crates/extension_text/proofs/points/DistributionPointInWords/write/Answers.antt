use Rattle.std.proofs.Common.{refl}
use Rattle.extension_text.proofs.NamesLaws.WriteLaws.{next, one}
use Rattle.extension_text.proofs.points.DistributionPointInWords.write.Goals as goal

pub returns : goal.returns
returns g c = next (one c.in_ok-write.ensures.writes) refl (next c.in_ok-write_optional_point_name.ensures refl (next (one c.in_ok-write_optional_reasons.ensures) refl c.write_optional_names.ensures))
