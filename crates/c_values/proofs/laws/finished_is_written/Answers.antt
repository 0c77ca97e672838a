use Rattle.std.proofs.Common.{refl}
use Rattle.der_writer.proofs.Composing.{wrote}
use Rattle.c_values.proofs.laws.finished_is_written.Goals as goal

pub returns : goal.returns
returns c w old new found starts puts small ends = wrote (record { small = small; kept = refl; returned = ends }) starts puts
