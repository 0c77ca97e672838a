use Rattle.std.proofs.Common.{refl}
use Rattle.extension_text.proofs.NamesLaws.WriteLaws.{next, one}
use Rattle.extension_text.proofs.web.QcStatementInWords.write.Goals as goal

pub returns : goal.returns
returns g c = next c.in_ok-write_identifier_line.ensures refl (one c.write_optional_any.ensures)
