use Rattle.std.proofs.Common.{arith}
use Rattle.std.proofs.lemmas.List.Elements.{All-more}
use Rattle.der_contents.specs.Grammar.{IsSpace}
use Rattle.der_contents.proofs.grammar.count_spaces.Goals as goal

pub loop-index-preserved : goal.loop-index-preserved
loop-index-preserved c =
    All-more IsSpace c.args.octets.now c.loop-index.index 0 c.loop-index-test.true c.loop-index.invariant
    (omega arith)
