use Rattle.std.proofs.Common.{List, ℕ}
use Rattle.std.specs.Fmt.{HasWritten, IsPlainFormatter}
use Rattle.der_base.specs.declared.rules.Rules.TheVariants.{Der}
use Rattle.der_extensions.specs.WebExtensions.{Vector, timestamps_left}
use Rattle.extension_text.specs.Names.Pieces.{Exactly}
use Rattle.extension_text.proofs.NamesLaws.LoopLaws.{Goes}
use Rattle.extension_text.specs.Timestamps.{timestamp_text}
use Rattle.extension_text.proofs.timestamps.write_timestamps.Given as goal

-- what was sent goes before the texts of the timestamps that are left
abbrev pub invariant-loop-timestamp : goal.invariant-loop-timestamp
invariant-loop-timestamp g l = record {
  done : IsPlainFormatter l.fn.f → (sent : List ℕ) × Goes (Vector Der) (λ w. Exactly (timestamp_text w)) l.fn.timestamps.octets.now sent (timestamps_left l.timestamp-iterator)
      × HasWritten g.W.Write.write_str_gives l.fn.f sent l.f;
}
