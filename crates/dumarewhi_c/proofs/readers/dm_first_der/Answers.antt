use Rattle.c_values.proofs.Firsts.{der_first}
use Rattle.dumarewhi_c.proofs.readers.dm_first_der.Goals as goal

pub returns-clause-exactly : goal.returns-clause-exactly
returns-clause-exactly c =
    let i = c.args.input.now in
    let found = c.from_der.result in
    let read = c.from_der.ensures in
    let kept = c.outcome_of_first.ensures in
    (found, read, kept.outcome, der_first i found c.args.element.now c.outcome_of_first.new.element read kept.element)
