use Rattle.std.proofs.Common.{List, ℕ}
use Rattle.std.specs.Fmt.{HasWritten, IsPlainFormatter}
use Rattle.x509.specs.Lists.{attributes_left}
use Rattle.x509.specs.Formats.{spells}
use Rattle.x509.specs.Certificates.{attribute}
use Rattle.extension_text.specs.Names.Names.{IsAfterPlus}
use Rattle.extension_text.proofs.NamesLaws.LoopLaws.{Goes}
use Rattle.extension_text.proofs.names.name.write_further.Given as goal

-- what was sent goes before the texts of the values that are left
abbrev pub invariant-loop-attribute : goal.invariant-loop-attribute
invariant-loop-attribute g l = record {
  done : IsPlainFormatter l.fn.f → (sent : List ℕ) × Goes (spells attribute) IsAfterPlus (attributes_left l.fn.attributes) sent (attributes_left l.attribute-iterator)
      × HasWritten g.W.Write.write_str_gives l.fn.f sent l.f;
}
