use Rattle.std.proofs.Common.{◌≡◌, ◌≤◌, ◌-◌, List, ℕ, length}
use Rattle.x509.specs.Formats.{set, spells}
use Rattle.x509.specs.Lists.{names_left}
use Rattle.extension_text.specs.Names.Pieces.{AreNext}
use Rattle.extension_text.proofs.names.name.pass.Given as goal

-- so many were passed, with those that are left behind them
abbrev pub invariant-loop-count : goal.invariant-loop-count
invariant-loop-count l = record {
  passed : (ws : List (List ℕ)) × AreNext (spells set) ws (names_left l.fn.names) (names_left l.left) × (length ws ≡ l.count);
  few : l.count ≤ l.most;
}

abbrev pub decreases-loop-count : goal.decreases-loop-count
decreases-loop-count l = l.most - l.count
