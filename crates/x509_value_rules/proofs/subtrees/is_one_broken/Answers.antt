use Rattle.std.proofs.Common.{refl}
use Rattle.std.proofs.lemmas.Bool.{false≢true}
use Rattle.der_cursor.specs.Formats.{Required}
use Rattle.der_extensions.specs.Extensions.{GeneralSubtree}
use Rattle.x509_rule_facts.proofs.AmongLaws.{found_here, not_found, still_on}
use Rattle.x509_value_rules.proofs.subtrees.is_one_broken.Goals as goal

pub returns-then-breaks_subtree : goal.returns-then-breaks_subtree
returns-then-breaks_subtree c = found_here (Required GeneralSubtree) c.in-Some.ensures.steps c.loop-subtree.invariant (c.if-breaks_subtree.ensures.0 refl)

pub loop-subtree-preserved : goal.loop-subtree-preserved
loop-subtree-preserved c = still_on (Required GeneralSubtree) c.in-Some.ensures.steps c.loop-subtree.invariant (λ h. false≢true (c.if-breaks_subtree.ensures.1 h))

pub returns : goal.returns
returns c = not_found c.loop-subtree.invariant c.in-None.ensures.steps.0
