use Rattle.der_extensions.specs.Lists.{items_left}
use Rattle.der_extensions.specs.GeneralNames.{GeneralName}
use Rattle.x509_value_rules.specs.Names.{IsBadName}
use Rattle.x509_rule_facts.proofs.AmongLaws.{IsStill}
use Rattle.x509_value_rules.proofs.names.has_bad_name.Given as goal

-- what is asked is asked of the names that are left
abbrev pub invariant-loop-name : goal.invariant-loop-name
invariant-loop-name l = IsStill (GeneralName) IsBadName l.fn.names.octets.now (items_left l.name-iterator)
