use Rattle.std.proofs.Common.{◌≡◌, ◌<◌, ◌^◌, take}
use Rattle.der_base.specs.Time.{decimal_from}
use Rattle.der_base.proofs.time.nanoseconds.Given as goal

abbrev pub invariant-loop-digit : goal.invariant-loop-digit
invariant-loop-digit l = (l.number ≡ decimal_from 0 (take l.digit-index l.digits)) × (l.number < 10 ^ l.digit-index)
