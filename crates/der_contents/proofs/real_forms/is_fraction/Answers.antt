use Rattle.der_contents.specs.Grammar.{IsMark, OneThen}
use Rattle.der_contents.specs.RealForms.{IsWhole}
use Rattle.der_contents.proofs.GrammarLaws.{never_told, no_front, one_front, told_behind}
use Rattle.der_contents.proofs.real_forms.is_fraction.Goals as goal

pub returns-in-Some : goal.returns-in-Some
returns-in-Some c =
    told_behind (OneThen IsMark) (one_front IsMark) IsWhole c.args.octets.now c.in-Some.digits.now c.is_whole.result
    c.in-Some.ensures c.is_whole.ensures

pub returns-in-None : goal.returns-in-None
returns-in-None c =
    never_told _ (no_front (OneThen IsMark) (one_front IsMark) IsWhole c.args.octets.now c.in-None.ensures)
