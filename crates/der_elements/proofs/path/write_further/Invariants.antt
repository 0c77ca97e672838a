use Rattle.std.proofs.Common.{take}
use Rattle.std.specs.Fmt.{HasWritten, IsPlainFormatter}
use Rattle.der_elements.specs.Paths.{further_text}
use Rattle.der_elements.proofs.path.write_further.Given as goal

-- the steps so far were written
abbrev pub invariant-loop-step : goal.invariant-loop-step
invariant-loop-step g l = record {
  done : IsPlainFormatter l.fn.f → HasWritten g.W.Write.write_str_gives l.fn.f (further_text (take l.step-index l.steps)) l.f;
}
