use Rattle.der_contents.specs.Grammar.{Ends, NumberThen}
use Rattle.der_contents.proofs.GrammarLaws.{never_told, no_front, number_front, told_behind}
use Rattle.der_contents.proofs.time_forms.is_offset.Goals as goal

pub returns-in-Some : goal.returns-in-Some
returns-in-Some c =
    told_behind (NumberThen 0 23) (number_front 0 23) (NumberThen 0 59 Ends) c.args.octets.now c.in-Some.minutes.now
    c.is_number.result c.in-Some.ensures c.is_number.ensures

pub returns-in-None : goal.returns-in-None
returns-in-None c =
    never_told _
    (no_front (NumberThen 0 23) (number_front 0 23) (NumberThen 0 59 Ends) c.args.octets.now c.in-None.ensures)
