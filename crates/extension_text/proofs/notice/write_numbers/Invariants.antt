use Rattle.std.proofs.Common.{List, ℕ, length}
use Rattle.std.specs.Fmt.{HasWritten, IsPlainFormatter}
use Rattle.der_base.specs.declared.rules.Rules.TheVariants.{Der}
use Rattle.der_cursor.specs.Formats.{Integer, Required}
use Rattle.extension_text.proofs.NamesLaws.LoopLaws.{Goes}
use Rattle.extension_text.specs.Notices.{IsNumber}
use Rattle.extension_text.proofs.notice.write_numbers.Given as goal

-- what was sent goes before the lines of the numbers that are left
abbrev pub invariant-loop-number : goal.invariant-loop-number
invariant-loop-number g l = record {
  done : IsPlainFormatter l.fn.f → (sent : List ℕ) × Goes (Required Integer Der) IsNumber l.fn.octets sent l.left
      × HasWritten g.W.Write.write_str_gives l.fn.f sent l.f;
}

abbrev pub decreases-loop-number : goal.decreases-loop-number
decreases-loop-number g l = length l.left
