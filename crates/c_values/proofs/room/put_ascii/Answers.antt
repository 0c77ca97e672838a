use Rattle.std.proofs.Common.{◌≡◌, ◌-◌, ◌^◌, ◌≤◌, ◌++◌, ◌∷◌, [], ◌∙◌, ap, length, take, get_or, arith, subst, sym}
use Rattle.std.specs.List.{flat_map}
use Rattle.std.proofs.lemmas.List.{flat_map_more, take_more}
use Rattle.c_values.specs.Rooms.{ascii}
use Rattle.c_values.specs.Texts.{PutsText}
use Rattle.c_values.proofs.Puts.{puts_none, puts_more}
use Rattle.c_values.proofs.room.put_ascii.Goals as goal

pub loop-octet-init : goal.loop-octet-init
loop-octet-init c = puts_none c.args.room.now c.args.at c.ranges.at.fits

pub loop-octet-preserved : goal.loop-octet-preserved
loop-octet-preserved c =
    let room = c.args.room.now in
    let text = c.args.text.now in
    let i = c.loop-octet.octet-index in
    let loop = c.loop-octet in
    let put = c.put_octet-end in
    let short : length room ≤ 2 ^ 64 - 1 = omega arith in
    let more = puts_more room loop.room put.new.room (flat_map ascii (take i text)) (ascii (get_or text i 0)) c.args.at loop.end put.result short loop.invariant put.ensures in
    let same = flat_map_more ascii [] (take i text) (get_or text i 0) ∙ sym (ap (flat_map ascii) (take_more text i 0 c.loop-octet-test.true)) in
    subst (λ l. PutsText room c.args.at l put.new.room put.result) same more
