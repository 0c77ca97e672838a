-- The rules of RFC 5280 for certificates.
use Rattle.x509.specs.Certificates.{Signed}
use Rattle.x509.specs.Rules.{Breaks as BreaksFields}
use Rattle.x509_rules.specs.declared.certificate.Rule.{Rule}
use Rattle.x509_rules.specs.declared.certificate.Rule.TheVariants as rule
use Rattle.x509_value_rules.specs.declared.facts.Fact.TheVariants as fact
use Rattle.x509_rule_facts.specs.Algorithms.{BreaksAlgorithm}
use Rattle.x509_rule_facts.specs.Attributes.{BreaksAttribute}
use Rattle.x509_value_rules.specs.Facts.{Has}
use Rattle.x509_rules.specs.Whole.{BreaksWhole}

-- the certificate breaks the rule
abbrev pub Breaks : Rule → Signed → Type 0
Breaks (rule.Fields r) c = BreaksFields r c
Breaks (rule.Algorithm r) c = BreaksAlgorithm r c
Breaks (rule.Attribute k) c = BreaksAttribute k c
Breaks (rule.Critical k) c = Has k fact.NotCritical c
Breaks (rule.NotCritical k) c = Has k fact.Critical c
Breaks (rule.Value k r) c = Has k (fact.Breaks r) c
Breaks (rule.Whole r) c = BreaksWhole r c
