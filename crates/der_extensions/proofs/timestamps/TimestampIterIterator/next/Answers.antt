use Rattle.der_extensions.proofs.VectorLaws.{goes_less}
use Rattle.der_extensions.proofs.timestamps.TimestampIterIterator.next.Goals as goal

pub returns-clause-goes : goal.returns-clause-goes
returns-clause-goes c = record { on = λ h. (tt, tt, goes_less c.in_ok-timestamp.ensures); keeps = tt; rests = λ h. tt }
