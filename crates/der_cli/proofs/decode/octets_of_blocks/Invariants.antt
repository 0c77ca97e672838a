use Rattle.std.proofs.Common.{◌+◌, ◌++◌, List, ℕ}
use Rattle.der_cli.specs.Inputs.{IsAfterBlocks, JoinsBlocks}
use Rattle.der_cli.proofs.decode.octets_of_blocks.Given as goal

-- with the octets of the blocks of the rest, those of the text are joined
abbrev pub invariant-loop-before : goal.invariant-loop-before
invariant-loop-before g l = record {
  joins : (n : ℕ) (others : List ℕ) → JoinsBlocks n l.rest others → JoinsBlocks (l.before + n) l.text (l.octets.items ++ others);
  after : IsAfterBlocks l.text l.before l.rest;
}
