use Rattle.der_extensions.specs.GeneralNames.{GeneralName}
use Rattle.der_extensions.specs.Lists.{items_left}
use Rattle.x509_rules.specs.Issuers.{IsName}
use Rattle.x509_rule_facts.proofs.AmongLaws.{IsStill}
use Rattle.x509_rules.proofs.issuers.has_name.Given as goal

-- what is asked is asked of the names that are left
abbrev pub invariant-loop-general_name : goal.invariant-loop-general_name
invariant-loop-general_name l = IsStill GeneralName (IsName l.fn.name.octets.now) l.fn.names.octets.now (items_left l.general_name-iterator)
