use Rattle.std.proofs.Common.{◌∙◌, ⊎_elim}
use Rattle.der_elements.proofs.Refusals.{marker_here}
use Rattle.der_elements.proofs.walk.Walk.after_end.Goals as goal

pub returns-in-None : goal.returns-in-None
returns-in-None c = λ after ends.
    ⊎_elim
    (λ z. absurd (let m = z.0 in let f = c.if-not-self.false in cc))
    (λ z. let here = marker_here c.args.self.now after z.1 z.2 z.3 z.4 in (rw c.in-None.is at c.after_end_marker.ensures) here.0 (c.octets_here.ensures.here ∙ here.1))
    ends
