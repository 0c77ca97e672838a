use Rattle.std.proofs.Common.{◌≡◌, ◌∙◌, inr, refl, arith, rules}
use Rattle.dumarewhi_page.proofs.ContentLaws.RoomLaws.{after_writes}
use Rattle.dumarewhi_page.proofs.content.shown.put_known.Goals as goal

pub returns-in-Ok : goal.returns-in-Ok
returns-in-Ok c =
    let made = c.new-room.ensures in
    let k = c.in-Ok.ensures refl in
    let took = after_writes c.new-room.result _ _ k.0 (omega arith) made.octets made.length k.2 in
    let same = took.0 ∙ made.same_reference in
    let ends : _ ≡ c.write_at.new.out.octets.now = search rules in
    inr (k.0, k.1, (ends ∙ took.1.0, took.1.1))
