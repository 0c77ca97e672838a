use Rattle.der_contents.specs.Grammar.{Ends, NumberThen}
use Rattle.der_contents.proofs.GrammarLaws.{never_told, no_front, number_front, told_behind}
use Rattle.der_contents.proofs.grammar.is_number.Goals as goal

pub returns-in-Some : goal.returns-in-Some
returns-in-Some c =
    told_behind (NumberThen c.args.low c.args.high) (number_front c.args.low c.args.high) Ends c.args.octets.now
    c.in-Some.rest.now c.is_end.result c.in-Some.ensures c.is_end.ensures

pub returns-in-None : goal.returns-in-None
returns-in-None c =
    never_told _
    (no_front (NumberThen c.args.low c.args.high) (number_front c.args.low c.args.high) Ends c.args.octets.now
    c.in-None.ensures)
