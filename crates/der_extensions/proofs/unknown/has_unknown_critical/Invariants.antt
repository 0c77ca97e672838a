use Rattle.x509.specs.Certificates.{extension}
use Rattle.x509.specs.Lists.{extensions_left}
use Rattle.x509.proofs.WalkLaws.{IsStill}
use Rattle.der_extensions.specs.Unknown.{IsUnknownCritical}
use Rattle.der_extensions.proofs.unknown.has_unknown_critical.Given as goal

-- what is asked is asked of the extensions that are left
abbrev pub invariant-loop-extension : goal.invariant-loop-extension
invariant-loop-extension l = IsStill extension (λ e _. IsUnknownCritical e) l.fn.extensions.octets.now (extensions_left l.extension-iterator)
