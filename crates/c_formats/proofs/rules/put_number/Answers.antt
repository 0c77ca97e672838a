use Rattle.std.proofs.Common.{◌∷◌, []}
use Rattle.der_elements.proofs.CheckLaws.Overlays.{overlay_one, overlay_behind}
use Rattle.c_formats.proofs.rules.put_number.Goals as goal

pub returns-then-at-numbers : goal.returns-then-at-numbers
returns-then-at-numbers c = overlay_one c.args.numbers.now c.args.at c.args.number c.if-at-numbers.true

pub returns-else-at-numbers : goal.returns-else-at-numbers
returns-else-at-numbers c = overlay_behind c.args.numbers.now c.args.at (c.args.number ∷ []) c.if-at-numbers.false
