use Rattle.std.proofs.Common.{rules, ap, ◌∙◌}
use Rattle.std.proofs.lemmas.Result.{err_from_is_err_and}
use Rattle.x509.specs.Lists.{extensions_left}
use Rattle.x509.proofs.CrlLaws.ReasonLaws.{has_reason, no_reason, passed, reason_refused, started}
use Rattle.x509.proofs.crl.entry.RevokedCertificate.reason.Goals as goal

pub loop-extension-init : goal.loop-extension-init
loop-extension-init c = started (ap (λ x. extensions_left x) c.into_iter-extension-iterator.ensures.into_iter_gives ∙ c.iter-extension-items.ensures.octets)

pub returns-in_err-reason : goal.returns-in_err-reason
returns-in_err-reason c =
    let q = err_from_is_err_and c.from_residual.result c.from_residual.ensures.1 in
    rw (q.1, q.2) (reason_refused c.loop-extension.invariant c.in-Some.ensures.steps c.in_err-reason.ensures)

pub returns-in-Some-2 : goal.returns-in-Some-2
returns-in-Some-2 c = has_reason c.loop-extension.invariant c.in-Some.ensures.steps c.in_ok-reason.ensures c.in-Some-2.is

pub loop-extension-preserved : goal.loop-extension-preserved
loop-extension-preserved c = passed c.loop-extension.invariant c.in-Some.ensures.steps c.in_ok-reason.ensures (search rules)

pub returns : goal.returns
returns c = no_reason c.loop-extension.invariant c.in-None.ensures.steps.0
