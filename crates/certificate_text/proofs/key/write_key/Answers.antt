use Rattle.std.proofs.Common.{refl}
use Rattle.extension_text.proofs.NamesLaws.WriteLaws.{next}
use Rattle.certificate_text.proofs.key.write_key.Goals as goal

pub returns : goal.returns
returns g c = next c.in_ok-write_identifier_line.ensures refl c.write_detail.ensures
