use Rattle.der_contents.specs.Grammar.{Ends, IsZero, OneThen}
use Rattle.der_contents.proofs.GrammarLaws.{never_told, no_front, one_front, told_behind}
use Rattle.der_contents.proofs.real_forms.is_zero.Goals as goal

pub returns-in-Some : goal.returns-in-Some
returns-in-Some c =
    told_behind (OneThen IsZero) (one_front IsZero) Ends c.args.octets.now c.in-Some.rest.now c.is_end.result
    c.in-Some.ensures c.is_end.ensures

pub returns-in-None : goal.returns-in-None
returns-in-None c = never_told _ (no_front (OneThen IsZero) (one_front IsZero) Ends c.args.octets.now c.in-None.ensures)
