use Rattle.x509.specs.Certificates.{extension}
use Rattle.x509.specs.Lists.{extensions_left}
use Rattle.x509.proofs.WalkLaws.{IsStill}
use Rattle.x509_rules.specs.Whole.{PointsToIssuer}
use Rattle.x509_rules.proofs.issuers.has_point_of.Given as goal

-- what is asked is asked of the extensions that are left
abbrev pub invariant-loop-extension : goal.invariant-loop-extension
invariant-loop-extension l = IsStill extension (λ e _. PointsToIssuer l.fn.known l.fn.name.octets.now e) l.fn.extensions.octets.now (extensions_left l.extension-iterator)
