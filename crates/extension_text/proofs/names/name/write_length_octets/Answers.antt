use Rattle.std.proofs.Common.{ap}
use Rattle.std.proofs.Output.{has_written_of_eq}
use Rattle.extension_text.specs.Names.Values.{hex}
use Rattle.extension_text.proofs.NamesLaws.LengthLaws.{first_put}
use Rattle.extension_text.proofs.names.name.write_length_octets.Goals as goal

pub returns : goal.returns
returns g c = λ plain ok. has_written_of_eq _ _ _ _ _ (ap hex (first_put _ _ _ _ _ c.length_octet_count-count.ensures.count c.write_length.ensures)) (c.write.ensures.writes plain ok)
