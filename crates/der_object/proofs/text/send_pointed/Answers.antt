use Rattle.std.proofs.Common.{arith}
use Rattle.der_values.proofs.OctetsLaws.Digits.{decimal_room}
use Rattle.der_values.proofs.OctetsLaws.Room.{puts_both, puts_tail}
use Rattle.der_object.proofs.text.send_pointed.Goals as goal

pub write_decimal-begin-requires-clause-room : goal.write_decimal-begin-requires-clause-room
write_decimal-begin-requires-clause-room g c = omega (arith, decimal_room c.args.n c.ranges.n.fits)

pub write_octet-begin-requires-clause-room : goal.write_octet-begin-requires-clause-room
write_octet-begin-requires-clause-room g c = omega (arith, decimal_room c.args.n c.ranges.n.fits, c.write_decimal-begin.ensures.begins)

pub returns : goal.returns
returns g c = rw (puts_tail (puts_both c.write_decimal-begin.ensures c.write_octet-begin.ensures) (omega arith)) at c.send.ensures
