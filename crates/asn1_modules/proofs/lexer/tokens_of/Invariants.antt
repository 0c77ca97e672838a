use Rattle.std.proofs.Common.{◌≡◌, ◌-◌, ◌≤◌, length, drop}
use Rattle.asn1_modules.specs.Items.{Lie}
use Rattle.asn1_modules.proofs.lexer.tokens_of.Given as goal

-- what is left is the end of the text, and the items lie before it
abbrev pub invariant-loop-first : goal.invariant-loop-first
invariant-loop-first l = record {
  few : length l.rest ≤ length l.text;
  part : l.rest ≡ drop (length l.text - length l.rest) l.text;
  laid : Lie l.text 0 l.tokens.items (length l.text - length l.rest);
}

abbrev pub decreases-loop-first : goal.decreases-loop-first
decreases-loop-first l = length l.rest
