use Rattle.std.proofs.lemmas.List.Elements.{All-more}
use Rattle.der_base.specs.Time.{IsDigit}
use Rattle.der_contents.proofs.grammar.count_digits.Goals as goal

pub loop-index-preserved : goal.loop-index-preserved
loop-index-preserved c =
    All-more IsDigit c.args.octets.now c.loop-index.index 0 c.loop-index-test.true c.loop-index.invariant
    c.if-not-is_ascii_digit.ensures.cases
