use Rattle.std.proofs.Common.{refl}
use Rattle.std.proofs.lemmas.Bool.{false≢true}
use Rattle.x509_rule_facts.proofs.FirstLaws.{found_first, found_none, nothing_searched, searched_one}
use Rattle.x509_rules.proofs.broken.first_broken.Goals as goal

pub loop-rule-init : goal.loop-rule-init
loop-rule-init c = nothing_searched

pub returns-then-breaks_examined : goal.returns-then-breaks_examined
returns-then-breaks_examined c = found_first c.loop-rule.invariant c.in-Some.ensures.cases (c.if-breaks_examined.ensures.0 refl)

pub loop-rule-preserved : goal.loop-rule-preserved
loop-rule-preserved c = searched_one c.loop-rule.invariant c.in-Some.ensures.cases (λ h. false≢true (c.if-breaks_examined.ensures.1 h))

pub returns : goal.returns
returns c = found_none c.loop-rule.invariant c.in_default.ensures.cases
