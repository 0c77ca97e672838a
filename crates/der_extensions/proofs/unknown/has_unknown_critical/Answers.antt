use Rattle.std.proofs.Common.{refl}
use Rattle.std.proofs.lemmas.Bool.{false≢true}
use Rattle.x509.specs.Certificates.{extension, extension_of}
use Rattle.x509.proofs.CertificateLaws.{extension_exact}
use Rattle.x509.proofs.WalkLaws.{found_here, not_found, still_on}
use Rattle.der_extensions.proofs.unknown.has_unknown_critical.Goals as goal

pub returns-then-is_unknown_critical : goal.returns-then-is_unknown_critical
returns-then-is_unknown_critical c =
    let e = c.in-Some.extension in
    let s = c.in-Some.ensures.steps in
    found_here {f = extension} extension_exact (extension_of e) s c.loop-extension.invariant (c.if-is_unknown_critical.ensures.0 refl)

pub loop-extension-preserved : goal.loop-extension-preserved
loop-extension-preserved c =
    let e = c.in-Some.extension in
    let s = c.in-Some.ensures.steps in
    still_on {f = extension} extension_exact (extension_of e) s c.loop-extension.invariant (λ h. false≢true (c.if-is_unknown_critical.ensures.1 h))

pub returns : goal.returns
returns c = not_found c.loop-extension.invariant c.in-None.ensures.steps.0
