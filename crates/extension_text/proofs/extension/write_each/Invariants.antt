use Rattle.std.proofs.Common.{List, ℕ}
use Rattle.std.specs.Fmt.{HasWritten, IsPlainFormatter}
use Rattle.x509.specs.Lists.{extensions_left}
use Rattle.x509.specs.Formats.{spells}
use Rattle.x509.specs.Certificates.{extension}
use Rattle.extension_text.proofs.NamesLaws.LoopLaws.{Goes}
use Rattle.extension_text.specs.Extensions.{IsExtension}
use Rattle.extension_text.proofs.extension.write_each.Given as goal

-- what was sent goes before the texts of the values that are left
abbrev pub invariant-loop-extension : goal.invariant-loop-extension
invariant-loop-extension g l = record {
  done : IsPlainFormatter l.fn.f → (sent : List ℕ) × Goes (spells extension) IsExtension l.fn.extensions.octets.now sent (extensions_left l.extension-iterator)
      × HasWritten g.W.Write.write_str_gives l.fn.f sent l.f;
}
