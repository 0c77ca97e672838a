use Rattle.der_cursor.specs.Formats.{Required}
use Rattle.der_extensions.specs.Extensions.{DistributionPoint}
use Rattle.der_extensions.specs.Lists.{items_left}
use Rattle.x509_rules.specs.Issuers.{IsOfIssuer}
use Rattle.x509_rule_facts.proofs.AmongLaws.{IsStill}
use Rattle.x509_rules.proofs.issuers.has_point_of_name.Given as goal

-- what is asked is asked of the points that are left
abbrev pub invariant-loop-point : goal.invariant-loop-point
invariant-loop-point l = IsStill (Required DistributionPoint) (IsOfIssuer l.fn.name.octets.now) l.fn.points.octets.now (items_left l.point-iterator)
