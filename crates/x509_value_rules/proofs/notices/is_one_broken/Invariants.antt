use Rattle.der_cursor.specs.Formats.{Required}
use Rattle.der_extensions.specs.Extensions.{PolicyQualifierInfo}
use Rattle.der_extensions.specs.Lists.{items_left}
use Rattle.x509_value_rules.specs.Notices.{BreaksQualifier}
use Rattle.x509_rule_facts.proofs.AmongLaws.{IsStill}
use Rattle.x509_value_rules.proofs.notices.is_one_broken.Given as goal

-- what is asked is asked of the qualifiers that are left
abbrev pub invariant-loop-qualifier : goal.invariant-loop-qualifier
invariant-loop-qualifier l = IsStill (Required PolicyQualifierInfo) (BreaksQualifier l.fn.rule) l.fn.qualifiers.octets.now (items_left l.qualifier-iterator)
