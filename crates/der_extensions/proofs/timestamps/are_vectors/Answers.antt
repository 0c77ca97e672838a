use Rattle.std.proofs.Common.{length, refl, ap, arith, rules}
use Rattle.std.proofs.lemmas.Bool.{false≢true}
use Rattle.std.proofs.lemmas.Bool.Decides.{nat_tests}
use Rattle.std.proofs.lemmas.List.{nil_from_length}
use Rattle.der_extensions.proofs.VectorLaws.{all_read, goes_less, goes_on, goes_start, none_next}
use Rattle.der_extensions.proofs.timestamps.are_vectors.Goals as goal

pub loop-left-init : goal.loop-left-init
loop-left-init c = goes_start

pub returns-in_default : goal.returns-in_default
returns-in_default c = (
  λ t. absurd (false≢true t),
  λ h. absurd (none_next c.loop-left.invariant (λ e. let long = ap length e in grind (arith, nat_tests)) c.in_default.ensures h),
)

pub loop-left-preserved : goal.loop-left-preserved
loop-left-preserved c = goes_on c.loop-left.invariant (λ e. let long = ap length e in grind (arith, nat_tests)) c.in-Some.ensures

pub loop-left-smaller : goal.loop-left-smaller
loop-left-smaller c = goes_less c.in-Some.ensures

pub returns : goal.returns
returns c = (λ t. all_read c.loop-left.invariant (nil_from_length _ (search rules)), λ h. refl)
