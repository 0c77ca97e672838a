use Rattle.std.proofs.Common.{arith}
use Rattle.der_values.proofs.OctetsLaws.Digits.{decimal_room}
use Rattle.der_values.proofs.OctetsLaws.Room.{puts_tail}
use Rattle.der_object.proofs.text.send_number.Goals as goal

pub write_decimal-begin-requires-clause-room : goal.write_decimal-begin-requires-clause-room
write_decimal-begin-requires-clause-room g c = decimal_room c.args.n c.ranges.n.fits

pub returns : goal.returns
returns g c = rw (puts_tail c.write_decimal-begin.ensures (omega arith)) at c.send.ensures
