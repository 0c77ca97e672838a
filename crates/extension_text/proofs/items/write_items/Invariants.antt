use Rattle.std.proofs.Common.{List, ℕ}
use Rattle.std.specs.Fmt.{HasWritten, IsPlainFormatter}
use Rattle.der_base.specs.declared.rules.Rules.TheVariants.{Der}
use Rattle.der_extensions.specs.Lists.{items_left}
use Rattle.extension_text.specs.Names.Pieces.{IsTextOf}
use Rattle.extension_text.proofs.NamesLaws.LoopLaws.{Goes}
use Rattle.extension_text.proofs.items.write_items.Given as goal

-- what was sent goes before the texts of the values that are left
abbrev pub invariant-loop-item : goal.invariant-loop-item
invariant-loop-item g l = record {
  done : IsPlainFormatter l.fn.f → (sent : List ℕ) × Goes (g.T.Item.field Der) (IsTextOf g.T.Item.view g.T.InWords.IsText) l.fn.list.octets.now sent (items_left l.item-iterator)
      × HasWritten g.W.Write.write_str_gives l.fn.f sent l.f;
}
