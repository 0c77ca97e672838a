use Rattle.std.proofs.Common.{List, ℕ}
use Rattle.std.specs.Fmt.{HasWritten, IsPlainFormatter}
use Rattle.x509.specs.Crl.Lists.{entries_left}
use Rattle.x509.specs.Formats.{spells}
use Rattle.x509.specs.Crl.Lists.{revoked_certificate}
use Rattle.extension_text.proofs.NamesLaws.LoopLaws.{Goes}
use Rattle.certificate_text.specs.Lists.{IsEntry}
use Rattle.certificate_text.proofs.revoked.write_entries.Given as goal

-- what was sent goes before the texts of the values that are left
abbrev pub invariant-loop-entry : goal.invariant-loop-entry
invariant-loop-entry g l = record {
  done : IsPlainFormatter l.fn.f → (sent : List ℕ) × Goes (spells revoked_certificate) IsEntry l.fn.entries.octets.now sent (entries_left l.entry-iterator)
      × HasWritten g.W.Write.write_str_gives l.fn.f sent l.f;
}
