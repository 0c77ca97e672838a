use Rattle.std.proofs.Common.{arith}
use Rattle.der_values.proofs.OctetsLaws.Room.{puts_tail}
use Rattle.der_object.proofs.hex.send_some.Goals as goal

pub returns : goal.returns
returns g c = rw (puts_tail c.write_spaced-begin.ensures (omega arith)) at c.send.ensures
