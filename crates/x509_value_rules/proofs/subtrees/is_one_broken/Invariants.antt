use Rattle.der_extensions.specs.Lists.{items_left}
use Rattle.der_cursor.specs.Formats.{Required}
use Rattle.der_extensions.specs.Extensions.{GeneralSubtree}
use Rattle.x509_value_rules.specs.Subtrees.{BreaksSubtree}
use Rattle.x509_rule_facts.proofs.AmongLaws.{IsStill}
use Rattle.x509_value_rules.proofs.subtrees.is_one_broken.Given as goal

-- what is asked is asked of the subtrees that are left
abbrev pub invariant-loop-subtree : goal.invariant-loop-subtree
invariant-loop-subtree l = IsStill (Required GeneralSubtree) (BreaksSubtree l.fn.rule) l.fn.subtrees.octets.now (items_left l.subtree-iterator)
