use Rattle.x509.specs.Certificates.{extension}
use Rattle.x509.specs.Lists.{extensions_left}
use Rattle.x509.proofs.WalkLaws.{IsStill}
use Rattle.x509_value_rules.specs.Facts.{IsShownBy}
use Rattle.x509_value_rules.proofs.facts.shows.Given as goal

-- what is asked is asked of the extensions that are left
abbrev pub invariant-loop-extension : goal.invariant-loop-extension
invariant-loop-extension l = IsStill extension (λ e _. IsShownBy l.fn.known l.fn.fact e) l.fn.extensions.octets.now (extensions_left l.extension-iterator)
