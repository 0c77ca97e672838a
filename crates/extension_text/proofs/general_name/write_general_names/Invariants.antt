use Rattle.std.proofs.Common.{List, ℕ}
use Rattle.std.specs.Fmt.{HasWritten, IsPlainFormatter}
use Rattle.der_extensions.specs.Lists.{items_left}
use Rattle.der_base.specs.declared.rules.Rules.TheVariants.{Der}
use Rattle.der_extensions.specs.GeneralNames.{GeneralName}
use Rattle.extension_text.proofs.NamesLaws.LoopLaws.{Goes}
use Rattle.extension_text.specs.GeneralNames.{IsGeneralName}
use Rattle.extension_text.proofs.general_name.write_general_names.Given as goal

-- what was sent goes before the texts of the values that are left
abbrev pub invariant-loop-name : goal.invariant-loop-name
invariant-loop-name g l = record {
  done : IsPlainFormatter l.fn.f → (sent : List ℕ) × Goes (GeneralName Der) (IsGeneralName l.fn.indent) l.fn.names.octets.now sent (items_left l.name-iterator)
      × HasWritten g.W.Write.write_str_gives l.fn.f sent l.f;
}
