use Rattle.std.proofs.Common.{arith, ◌-◌}
use Rattle.der_object.proofs.Sending.{wrote_then, wrote_stop, wrote_exit}
use Rattle.der_object.proofs.TextViews.{more_spaces, last_spaces, some_spaces}
use Rattle.der_object.proofs.text.send_spaces.Goals as goal

pub returns-in_err-send : goal.returns-in_err-send
returns-in_err-send g c =
    let h = c.loop-left.invariant in
    let left = c.loop-left.left in
    rw (last_spaces c.args.count (left - 64) (omega (arith, h.within)), more_spaces c.args.count left (omega (arith, c.loop-left-test.true)) h.within)
    (wrote_exit _ c.from_residual.ensures.1 (wrote_stop _ (wrote_then h.sent c.in_err-send.ensures)))

pub loop-left-preserved : goal.loop-left-preserved
loop-left-preserved g c =
    let h = c.loop-left.invariant in
    let left = c.loop-left.left in
    record {
      within = omega (arith, h.within);
      sent = rw (more_spaces c.args.count left (omega (arith, c.loop-left-test.true)) h.within) (wrote_then h.sent c.in_ok-send.ensures);
    }

pub returns : goal.returns
returns g c =
    let h = c.loop-left.invariant in
    rw (last_spaces c.args.count c.loop-left.left h.within) (wrote_then h.sent (rw (some_spaces c.loop-left.left (omega (arith, c.loop-left-test.false))) at c.send-2.ensures))
