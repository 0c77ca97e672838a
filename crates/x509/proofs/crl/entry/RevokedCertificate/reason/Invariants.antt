use Rattle.x509.specs.Lists.{extensions_left}
use Rattle.x509.proofs.CrlLaws.ReasonLaws.{FirstFrom}
use Rattle.x509.proofs.crl.entry.RevokedCertificate.reason.Given as goal

-- the extensions that are left
abbrev pub invariant-loop-extension : goal.invariant-loop-extension
invariant-loop-extension l = FirstFrom (extensions_left l.extension-iterator) l.fn.self.crl_entry_extensions.octets.now
