use Rattle.std.proofs.Common.{arith, rules, take-add, length-drop}
use Rattle.std.proofs.KnownBytes.{Appends-trans}
use Rattle.std.proofs.lemmas.List.{take_rest}
use Rattle.der_object.proofs.writer.send.Goals as goal

-- each turn writes a front of what is left
pub writes-preserved : goal.writes-preserved
writes-preserved g c =
    let inv = c.writes.invariant in
    let all = c.args.octets.now in
    let at = c.writes.at in
    let more = rw (take_rest all at) at c.in-Ok.ensures.octets in
    let bound = rw (take_rest all at) at c.in-Ok.ensures.bound in
    record {
      in_range = omega (arith, inv.in_range, bound, length-drop at all);
      sent = rw (take-add at c.in-Ok.n all) (Appends-trans _ _ _ _ _ inv.sent more);
      clean = search (rules, c.in-Ok.ensures.faults, c.in-Ok.n-test);
    }
