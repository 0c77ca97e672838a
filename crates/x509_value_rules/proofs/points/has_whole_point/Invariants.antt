use Rattle.der_extensions.specs.Lists.{items_left}
use Rattle.der_cursor.specs.Formats.{Required}
use Rattle.der_extensions.specs.Extensions.{DistributionPoint}
use Rattle.x509_value_rules.specs.Points.{IsForAllReasons}
use Rattle.x509_rule_facts.proofs.AmongLaws.{IsStill}
use Rattle.x509_value_rules.proofs.points.has_whole_point.Given as goal

-- what is asked is asked of the points that are left
abbrev pub invariant-loop-point : goal.invariant-loop-point
invariant-loop-point l = IsStill (Required DistributionPoint) (IsForAllReasons) l.fn.points.octets.now (items_left l.point-iterator)
