use Rattle.der_base.specs.Time.{IsDigit}
use Rattle.der_contents.specs.Grammar.{AnyThen, Ends}
use Rattle.der_contents.proofs.FormLaws.{end_begins}
use Rattle.der_contents.proofs.GrammarLaws.{never_told, one_is, some_passed, told_at}
use Rattle.der_contents.proofs.grammar.is_whole.Goals as goal

pub returns-in-Some : goal.returns-in-Some
returns-in-Some c =
    told_at _ _ _
    (some_passed IsDigit Ends (end_begins IsDigit) c.args.octets.now c.in-Some.rest.now c.in-Some.ensures)
    c.is_end.ensures

pub returns-in-None : goal.returns-in-None
returns-in-None c = never_told _ (λ o. one_is IsDigit (AnyThen IsDigit Ends) c.args.octets.now o c.in-None.ensures)
