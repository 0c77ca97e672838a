use Rattle.std.proofs.Common.{◌≡◌, ◌++◌, List, ℕ, drop, Ok}
use Rattle.der_base.specs.Pretty.{items_text}
use Rattle.der_object.specs.HeaderFacts.{forms_of}
use Rattle.der_object.specs.Layouts.{style}
use Rattle.der_object.specs.View.{trees}
use Rattle.der_object.specs.Writing.{Wrote}
use Rattle.der_object.proofs.text.+text.Given as goal

-- the texts of the items in front of one were sent
abbrev pub invariant-send_items-loop-o : goal.invariant-send_items-loop-o
invariant-send_items-loop-o g l = record {
  done : (sent : List ℕ) × (items_text (style l.layout) l.indent (trees l.items) (forms_of l.items) ≡ sent ++ items_text (style l.layout) l.indent
      (trees (drop l.o-index l.items)) (forms_of (drop l.o-index l.items)))
      × Wrote g.W.Write.contents l.initial.w l.w (Ok tt) sent;
}
