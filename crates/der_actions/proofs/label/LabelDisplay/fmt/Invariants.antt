use Rattle.std.proofs.Common.{take}
use Rattle.std.specs.Fmt.{HasWritten, IsPlainFormatter}
use Rattle.der_actions.specs.Labels.{label_text}
use Rattle.der_actions.proofs.label.LabelDisplay.fmt.Given as goal

-- the octets so far were written
abbrev pub invariant-loop-octet : goal.invariant-loop-octet
invariant-loop-octet g l = record {
  done : IsPlainFormatter l.fn.f → HasWritten g.W.Write.write_str_gives l.fn.f (label_text (take l.octet-index l.octets)) l.f;
}
