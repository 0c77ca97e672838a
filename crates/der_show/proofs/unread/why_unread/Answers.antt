use Rattle.std.proofs.Common.{subst}
use Rattle.der_show.specs.Why.{IsWhy}
use Rattle.der_show.proofs.unread.why_unread.Goals as goal

pub returns : goal.returns
returns c = record {
  furthest = c.in_ok-refused.ensures;
  place = c.place_in-place.ensures;
  why = subst (λ p. IsWhy c.in_ok-refused.refused p c.why_at-why.result) c.as_ref.ensures.value c.why_at-why.ensures;
}
