use Rattle.std.proofs.Common.{arith, length, length-append, ap, refl}
use Rattle.x509.specs.Formats.{none}
use Rattle.x509.proofs.PartialLaws.FieldLaws.{one_more, run_first, run_front}
use Rattle.x509.proofs.partial.extensions.first_extensions.Goals as goal

pub loop-behind-init : goal.loop-behind-init
loop-behind-init c = none refl refl

pub loop-behind-preserved : goal.loop-behind-preserved
loop-behind-preserved c = one_more c.loop-behind.invariant (λ e. omega (arith, ap length e, c.in-Some.ensures.1)) c.in-Some.ensures.0

pub slice_bounds-result-count : goal.slice_bounds-result-count
slice_bounds-result-count c = let f = run_front c.loop-behind.invariant in omega (arith, ap length f.1, length-append f.0 c.loop-behind.rest.now)

pub returns : goal.returns
returns c = run_first c.loop-behind.invariant c.in_default.ensures
