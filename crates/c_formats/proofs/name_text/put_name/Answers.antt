use Rattle.std.proofs.Common.{◌≡◌, ◌∙◌, ap, inr, refl, subst, arith, rules}
use Rattle.c_values.specs.Rooms.{written}
use Rattle.c_values.specs.Texts.{PutsText}
use Rattle.c_values.proofs.RoomLaws.{after_writes}
use Rattle.c_formats.proofs.name_text.put_name.Goals as goal

pub returns-in-Ok : goal.returns-in-Ok
returns-in-Ok c =
    let made = c.new-room.ensures in
    let k = c.in-Ok.ensures refl in
    let took = after_writes c.new-room.result _ _ k.0 (omega arith) made.octets made.length k.2 in
    let same = took.0 ∙ made.same_reference in
    let ends : _ ≡ c.write_at.new.out.octets.now = search rules in
    let text = ap (λ s. written s k.0) made.script in
    inr (written c.new-room.result.script k.0, (k.0, k.1, text), (ends ∙ took.1.0, took.1.1))
