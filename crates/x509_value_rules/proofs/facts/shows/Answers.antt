use Rattle.std.proofs.Common.{refl}
use Rattle.std.proofs.lemmas.Bool.{false≢true}
use Rattle.x509.specs.Certificates.{extension, extension_of}
use Rattle.x509.proofs.CertificateLaws.{extension_exact}
use Rattle.x509.proofs.WalkLaws.{found_here, not_found, still_on}
use Rattle.x509_value_rules.specs.Facts.{Shows}
use Rattle.x509_value_rules.proofs.facts.shows.Goals as goal

pub returns-then-is_shown_by : goal.returns-then-is_shown_by
unfolding Shows
returns-then-is_shown_by c = found_here {f = extension} extension_exact (extension_of c.in-Some.extension) c.in-Some.ensures.steps c.loop-extension.invariant (c.if-is_shown_by.ensures.0 refl)

pub loop-extension-preserved : goal.loop-extension-preserved
loop-extension-preserved c = still_on {f = extension} extension_exact (extension_of c.in-Some.extension) c.in-Some.ensures.steps c.loop-extension.invariant (λ h. false≢true (c.if-is_shown_by.ensures.1 h))

pub returns : goal.returns
unfolding Shows
returns c = not_found c.loop-extension.invariant c.in-None.ensures.steps.0
