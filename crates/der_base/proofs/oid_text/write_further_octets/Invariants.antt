use Rattle.std.proofs.Common.{take}
use Rattle.std.specs.Fmt.{HasWritten, IsPlainFormatter}
use Rattle.der_base.specs.Pretty.{spaced_hex}
use Rattle.der_base.proofs.oid_text.write_further_octets.Given as goal

-- the octets so far were written
abbrev pub invariant-loop-octet : goal.invariant-loop-octet
invariant-loop-octet g l = record {
  done : IsPlainFormatter l.fn.f → HasWritten g.W.Write.write_str_gives l.fn.f (spaced_hex (take l.octet-index l.octets)) l.f;
}
