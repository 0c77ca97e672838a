use Rattle.std.proofs.Common.{arith}
use Rattle.der_values.proofs.OctetsLaws.Digits.{written_none, written_room, written_more, written_last}
use Rattle.der_values.proofs.octets.decimal.write_decimal.Goals as goal

pub write_octet-begin-requires-clause-room : goal.write_octet-begin-requires-clause-room
write_octet-begin-requires-clause-room c = written_room _ _ _ _ _ _ c.loop-rest.invariant.behind (omega arith) (omega arith)

pub write_octet-requires-clause-room : goal.write_octet-requires-clause-room
write_octet-requires-clause-room c = written_room _ _ _ _ _ _ c.loop-rest.invariant.behind (omega arith) (omega arith)

pub loop-rest-init : goal.loop-rest-init
loop-rest-init c = record { behind = written_none _ _ _; size = omega arith }

pub loop-rest-preserved : goal.loop-rest-preserved
loop-rest-preserved c =
    record {
      behind = written_more _ _ _ _ _ _ _ _ _ c.loop-rest.invariant.behind (omega arith) (omega arith) c.digit.ensures c.write_octet-begin.ensures;
      size = omega arith;
    }

pub returns : goal.returns
returns c = written_last _ _ _ _ _ _ _ _ _ c.loop-rest.invariant.behind (omega arith) c.digit-2.ensures c.write_octet.ensures
