use Rattle.std.proofs.Common.{refl}
use Rattle.std.proofs.lemmas.Bool.{false≢true}
use Rattle.x509.specs.Certificates.{extension, extension_of}
use Rattle.x509.proofs.CertificateLaws.{extension_exact}
use Rattle.x509.proofs.WalkLaws.{found_here, not_found, still_on}
use Rattle.x509_rules.proofs.issuers.has_point_of.Goals as goal

pub returns-then-points_to_issuer : goal.returns-then-points_to_issuer
returns-then-points_to_issuer c = found_here {f = extension} extension_exact (extension_of c.in-Some.extension) c.in-Some.ensures.steps c.loop-extension.invariant (c.if-points_to_issuer.ensures.0 refl)

pub loop-extension-preserved : goal.loop-extension-preserved
loop-extension-preserved c = still_on {f = extension} extension_exact (extension_of c.in-Some.extension) c.in-Some.ensures.steps c.loop-extension.invariant (λ h. false≢true (c.if-points_to_issuer.ensures.1 h))

pub returns : goal.returns
returns c = not_found c.loop-extension.invariant c.in-None.ensures.steps.0
