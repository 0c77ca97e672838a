use Rattle.std.proofs.Common.{refl}
use Rattle.extension_text.proofs.NamesLaws.WriteLaws.{next, one}
use Rattle.extension_text.proofs.notice.write_reference.Goals as goal

pub returns : goal.returns
returns g c = next (one c.in_ok-write.ensures.writes) refl c.write_numbers.ensures
