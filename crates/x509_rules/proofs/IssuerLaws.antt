-- Names of issuers in distribution points.
use Rattle.std.proofs.Common.{◌≢◌, ℕ, Option, Some, None, List, inr}
use Rattle.x509.specs.Certificates.{Signed}
use Rattle.x509.proofs.WalkLaws.{elsewhere}
use Rattle.x509_value_rules.specs.declared.facts.Fact.TheVariants.{Breaks}
use Rattle.der_extensions.specs.declared.known.KnownExtension.{KnownExtension}
use Rattle.x509_value_rules.specs.declared.points.PointRule.TheVariants.{NameAlone}
use Rattle.x509_value_rules.specs.declared.value_rules.ValueRule.TheVariants as rule
use Rattle.x509_value_rules.specs.Facts.{Has, Shows}
use Rattle.x509_rules.specs.Issuers.{PointsTo, SomeName}
use Rattle.x509_value_rules.specs.ValueRules.{BreaksValue}
use Rattle.x509_rules.specs.Whole.{HasPointOfIssuer}
use Rattle.x509_rule_facts.proofs.AmongLaws.{among_more}
use Rattle.x509_value_rules.proofs.SoundLaws.{is_there}

some_name : (name : List ℕ) (o : Option (List ℕ)) → SomeName name o → o ≢ None
some_name name None h = absurd h
some_name name (Some w) h = is_there w

-- a point that has the name in its cRLIssuer has more than a name
more_than_name : (name w : List ℕ) → PointsTo name w → BreaksValue (rule.Points NameAlone) w
more_than_name name w s = (s.0, s.1, among_more (λ p h. inr (some_name name p.1.1.0 h)) s.2)

pub shows_more : (k : KnownExtension) (c : Signed) → HasPointOfIssuer k c → Has k (Breaks (rule.Points NameAlone)) c
unfolding Shows
shows_more k c = elsewhere (λ e rest h. (h.0, more_than_name c.tbs_certificate.issuer e.value h.1))
