-- What an iterator over the rules that a certificate breaks gives.
use Rattle.std.specs.Prelude.{◌≡◌, List, Option, MatchOption}
use Rattle.std.specs.List.{All}
use Rattle.x509.specs.Certificates.{Signed, certificate_of}
use Rattle.x509_rules.specs.declared.broken.BrokenRules.{BrokenRules}
use Rattle.x509_rules.specs.declared.broken.FirstBroken.{FirstBroken}
use Rattle.x509_rules.specs.declared.certificate.Rule.{Rule}
use Rattle.x509_rule_facts.specs.Firsts.{IsFirstOf}
use Rattle.x509_rules.specs.Rules.{Breaks}

-- the rules that aren't asked yet, and the certificate
abbrev pub rules_left : BrokenRules → List Rule
rules_left b = b.left.now

abbrev pub certificate_in : BrokenRules → Signed
certificate_in b = certificate_of b.certificate.now

-- the first of the rules that the certificate breaks, and those after it; None where it breaks none
abbrev pub FindsBroken : Signed → List Rule → Option FirstBroken → Type 0
FindsBroken c rules result =
    MatchOption result (All (λ r. ¬ Breaks r c) rules) (λ x. IsFirstOf (λ r. Breaks r c) rules x.rule x.rest.now)

-- A call of `next` gives the first of the rules left that the certificate breaks, and those after it are left. It gives
-- None where it breaks none of them, and they are left.
abbrev pub YieldsBroken : BrokenRules → Option Rule → BrokenRules → Type 0
YieldsBroken s r t = (certificate_in t ≡ certificate_in s)
    × MatchOption r (All (λ q. ¬ Breaks q (certificate_in s)) (rules_left s) × (rules_left t ≡ rules_left s))
    (λ x. IsFirstOf (λ q. Breaks q (certificate_in s)) (rules_left s) x (rules_left t))
