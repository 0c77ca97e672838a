use Rattle.std.proofs.Common.{◌∷◌, [], ap, ◌∙◌, arith}
use Rattle.std.specs.Prelude.{slice_set}
use Rattle.der_elements.proofs.CheckLaws.Overlays.{overlay_one, overlay_behind}
use Rattle.der_elements.proofs.check.tape.put.Goals as goal

pub returns-then-number-slots : goal.returns-then-number-slots
returns-then-number-slots g c =
    let slots = c.args.slots.now in
    ap (slice_set slots c.args.number) c.keep.ensures ∙ overlay_one slots c.args.number (g.N.Slot.slot c.args.element) (omega arith)

pub returns-else-number-slots : goal.returns-else-number-slots
returns-else-number-slots g c = overlay_behind c.args.slots.now c.args.number (g.N.Slot.slot c.args.element ∷ []) (omega arith)
