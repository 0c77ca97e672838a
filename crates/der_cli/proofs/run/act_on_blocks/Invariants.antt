use Rattle.std.proofs.Common.{◌≡◌, ◌&&◌, ℕ, ◌+◌, Bool, Option, List}
use Rattle.der_cli.specs.Inputs.{IsAfterBlocks, TakesBlocks}
use Rattle.der_cli.proofs.run.act_on_blocks.Given as goal

-- with the blocks of the rest those of the text are taken
abbrev pub invariant-loop-before : goal.invariant-loop-before
invariant-loop-before g l = record {
  takes : (n : ℕ) (new : Option (List ℕ)) (all : Bool) → TakesBlocks l.options l.name n l.rest (g.W.Write.contents l.out) new all
      → TakesBlocks l.options l.name (l.before + n) l.text (g.W.Write.contents l.fn.out) new (l.are_read && all);
  after : IsAfterBlocks l.text l.before l.rest;
  same : l.before ≡ 0 → g.W.Write.contents l.out ≡ g.W.Write.contents l.fn.out;
}
