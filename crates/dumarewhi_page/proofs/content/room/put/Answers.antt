use Rattle.std.proofs.Common.{◌≡◌, ◌∙◌, inr, arith, rules}
use Rattle.std.proofs.lemmas.Option.{IfSome_then}
use Rattle.dumarewhi_page.proofs.ContentLaws.RoomLaws.{after_writes}
use Rattle.dumarewhi_page.proofs.content.room.put.Goals as goal

pub returns-in-Ok : goal.returns-in-Ok
returns-in-Ok g c =
    let made = c.new-room.ensures in
    IfSome_then (g.D.Display.output c.args.what) c.in-Ok.ensures.writes (λ text k.
    let took = after_writes c.new-room.result _ _ text (omega arith) made.octets made.length k in
    let same = took.0 ∙ made.same_reference in
    let ends : _ ≡ c.write.new.self.octets.now = search rules in
    inr (ends ∙ took.1.0, took.1.1))
