use Rattle.std.proofs.Common.{List, ℕ}
use Rattle.std.specs.Fmt.{HasWritten, IsPlainFormatter}
use Rattle.x509_keys.specs.Request.Lists.{values_left}
use Rattle.x509.specs.Formats.{spells}
use Rattle.x509.specs.Formats.{any}
use Rattle.extension_text.specs.Names.Pieces.{Exactly}
use Rattle.extension_text.proofs.NamesLaws.LoopLaws.{Goes}
use Rattle.certificate_text.specs.Requests.{value_line}
use Rattle.certificate_text.proofs.request.write_values.Given as goal

-- what was sent goes before the texts of the values that are left
abbrev pub invariant-loop-value : goal.invariant-loop-value
invariant-loop-value g l = record {
  done : IsPlainFormatter l.fn.f → (sent : List ℕ) × Goes (spells any) (λ e. Exactly (value_line e)) l.fn.values.octets.now sent (values_left l.value-iterator)
      × HasWritten g.W.Write.write_str_gives l.fn.f sent l.f;
}
