use Rattle.std.proofs.Common.{refl}
use Rattle.std.proofs.lemmas.Bool.{false≢true}
use Rattle.x509.specs.Crl.Lists.{revoked_certificate, revoked_of}
use Rattle.x509.proofs.CrlLaws.CrlLaws.{revoked_exact}
use Rattle.x509.proofs.WalkLaws.{found_here, not_found, still_on}
use Rattle.x509_rules.proofs.crl.entries.is_one_broken.Goals as goal

pub returns-then-breaks_entry : goal.returns-then-breaks_entry
returns-then-breaks_entry c = found_here {f = revoked_certificate} revoked_exact (revoked_of c.in-Some.entry) c.in-Some.ensures.steps c.loop-entry.invariant (c.if-breaks_entry.ensures.0 refl)

pub loop-entry-preserved : goal.loop-entry-preserved
loop-entry-preserved c = still_on {f = revoked_certificate} revoked_exact (revoked_of c.in-Some.entry) c.in-Some.ensures.steps c.loop-entry.invariant (λ h. false≢true (c.if-breaks_entry.ensures.1 h))

pub returns : goal.returns
returns c = not_found c.loop-entry.invariant c.in-None.ensures.steps.0
