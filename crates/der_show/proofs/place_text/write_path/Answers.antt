use Rattle.std.proofs.Common.{refl}
use Rattle.extension_text.proofs.NamesLaws.WriteLaws.{next, nothing, one}
use Rattle.der_show.proofs.place_text.write_path.Goals as goal

pub returns-in-Some : goal.returns-in-Some
returns-in-Some g c = rw c.in-Some.is (next (one c.in_ok-write.ensures.writes) refl c.write_extension.ensures)

pub returns-in-None : goal.returns-in-None
returns-in-None g c = rw c.in-None.is (next (one c.in_ok-write.ensures.writes) refl nothing)
