use Rattle.std.proofs.Common.{◌-◌, ◌^◌, ◌≤◌, ◌∷◌, [], length, take, get_or, arith}
use Rattle.std.proofs.lemmas.List.{take_more}
use Rattle.c_values.proofs.Puts.{puts_none, puts_more}
use Rattle.c_values.proofs.text.put_text.Goals as goal

pub loop-octet-init : goal.loop-octet-init
loop-octet-init c = puts_none c.args.room.now c.args.at c.ranges.at.fits

pub loop-octet-preserved : goal.loop-octet-preserved
loop-octet-preserved c =
    let room = c.args.room.now in
    let text = c.args.text.now in
    let i = c.loop-octet.octet-index in
    let end = c.saturating_add-end.result in
    let short : length room ≤ 2 ^ 64 - 1 = omega arith in
    let loop = c.loop-octet in
    let put = c.put_octet in
    let more = puts_more room loop.room put.new.room (take i text) (get_or text i 0 ∷ []) c.args.at loop.end end short loop.invariant (put.ensures, c.saturating_add-end.ensures) in
    rw (take_more text i 0 c.loop-octet-test.true) more
