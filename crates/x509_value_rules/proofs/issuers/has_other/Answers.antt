use Rattle.std.proofs.Common.{sym, ◌∙◌}
use Rattle.std.proofs.lemmas.Bool.{false≢true}
use Rattle.der_extensions.specs.GeneralNames.{GeneralName}
use Rattle.x509_rule_facts.proofs.AmongLaws.{found_here, not_found, still_on}
use Rattle.x509_value_rules.proofs.issuers.has_other.Goals as goal

pub returns-then-not-is_distinguished : goal.returns-then-not-is_distinguished
returns-then-not-is_distinguished c = found_here GeneralName c.in-Some.ensures.steps c.loop-name.invariant (λ p. false≢true (sym (c.if-not-is_distinguished.true) ∙ c.is_distinguished.ensures.1 p))

pub loop-name-preserved : goal.loop-name-preserved
loop-name-preserved c = still_on GeneralName c.in-Some.ensures.steps c.loop-name.invariant (λ n. n (c.is_distinguished.ensures.0 c.if-not-is_distinguished.false))

pub returns : goal.returns
returns c = not_found c.loop-name.invariant c.in-None.ensures.steps.0
