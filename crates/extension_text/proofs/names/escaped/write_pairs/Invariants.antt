use Rattle.std.proofs.Common.{◌≡◌, ◌++◌, List, ℕ, flat_map, length}
use Rattle.std.specs.Fmt.{HasWritten, IsPlainFormatter}
use Rattle.extension_text.specs.Names.Escapes.{pair_text}
use Rattle.extension_text.proofs.names.escaped.write_pairs.Given as goal

-- the octets in front of those that are left were written
abbrev pub invariant-loop-left : goal.invariant-loop-left
invariant-loop-left g l = record {
  done : IsPlainFormatter l.fn.f → (sent : List ℕ) × (flat_map pair_text l.fn.octets ≡ sent ++ flat_map pair_text l.left)
      × HasWritten g.W.Write.write_str_gives l.fn.f sent l.f;
}

abbrev pub decreases-loop-left : goal.decreases-loop-left
decreases-loop-left g l = length l.left
