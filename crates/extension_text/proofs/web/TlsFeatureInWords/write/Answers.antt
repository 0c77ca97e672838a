use Rattle.std.proofs.Common.{refl}
use Rattle.extension_text.proofs.NamesLaws.WriteLaws.{along, one}
use Rattle.extension_text.proofs.web.TlsFeatureInWords.write.Goals as goal

pub returns : goal.returns
returns g c = one (along c.in_ok-write_str.ensures.writes refl (along c.in_ok-write_feature.ensures refl c.write_str-2.ensures.writes))
