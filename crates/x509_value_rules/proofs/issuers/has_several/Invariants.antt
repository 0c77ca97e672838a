use Rattle.der_extensions.specs.GeneralNames.{GeneralName}
use Rattle.der_extensions.specs.Lists.{items_left}
use Rattle.x509_value_rules.specs.Points.{IsDistinguished}
use Rattle.x509_value_rules.proofs.TwiceLaws.{IsStill}
use Rattle.x509_value_rules.proofs.issuers.has_several.Given as goal

-- what is asked is asked of the names that are left
abbrev pub invariant-loop-name : goal.invariant-loop-name
invariant-loop-name l = IsStill GeneralName IsDistinguished l.fn.names.octets.now l.is_second (items_left l.name-iterator)
