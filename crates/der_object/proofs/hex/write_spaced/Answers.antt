use Rattle.std.proofs.Common.{drop, arith, length-drop}
use Rattle.der_object.proofs.HexTexts.{spaced_length}
use Rattle.der_object.proofs.hex.write_spaced.Goals as goal

pub write_pair-begin-requires-clause-room : goal.write_pair-begin-requires-clause-room
write_pair-begin-requires-clause-room c =
    let w = c.args.octets.now in
    let i = c.loop-i.i in
    omega (arith, c.loop-i.invariant.begins, spaced_length (drop i w), length-drop i w, c.requires.room, c.loop-i-test.true, c.loop-i.auto.i)
