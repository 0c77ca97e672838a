use Rattle.der_extensions.specs.GeneralNames.{GeneralName}
use Rattle.der_extensions.specs.Lists.{items_left}
use Rattle.x509_rule_facts.specs.ValueFacts.{IsMailboxName}
use Rattle.x509_rule_facts.proofs.AmongLaws.{IsStill}
use Rattle.x509_rule_facts.proofs.value_facts.has_mailbox.Given as goal

-- what is asked is asked of the names that are left
abbrev pub invariant-loop-name : goal.invariant-loop-name
invariant-loop-name l = IsStill GeneralName IsMailboxName l.fn.names.octets.now (items_left l.name-iterator)
