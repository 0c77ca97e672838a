use Rattle.std.proofs.Common.{take}
use Rattle.std.specs.Fmt.{HasWritten, IsPlainFormatter}
use Rattle.der_schema.specs.NamePaths.{further_names}
use Rattle.der_schema.proofs.name_path.write_further.Given as goal

-- the steps so far were written
abbrev pub invariant-loop-step : goal.invariant-loop-step
invariant-loop-step g l = record {
  done : IsPlainFormatter l.fn.f
      → HasWritten g.W.Write.write_str_gives l.fn.f (further_names (take l.step-index l.steps)) l.f;
}
