use Rattle.std.proofs.Common.{◌∷◌, []}
use Rattle.der_elements.proofs.CheckLaws.Overlays.{overlay_one, overlay_behind}
use Rattle.c_values.proofs.text.put_octet.Goals as goal

pub returns-then-at-room : goal.returns-then-at-room
returns-then-at-room c = overlay_one c.args.room.now c.args.at c.args.octet c.if-at-room.true

pub returns-else-at-room : goal.returns-else-at-room
returns-else-at-room c = overlay_behind c.args.room.now c.args.at (c.args.octet ∷ []) c.if-at-room.false
