use Rattle.std.proofs.Common.{◌≡◌, length, ◌-◌, ◌≤◌, take}
use Rattle.std.specs.Io.KnownBytes.{Appends}
use Rattle.der_object.specs.Writing.{faults_of, written}
use Rattle.der_object.proofs.writer.send.Given as goal

abbrev pub invariant-writes : goal.invariant-writes
invariant-writes g l = record {
  in_range : l.at ≤ length l.octets;
  sent : Appends (written g.W.Write.contents l.fn.w) (written g.W.Write.contents l.w) (take l.at l.octets);
  clean : faults_of l.w ≡ faults_of l.fn.w;
}

abbrev pub decreases-writes : goal.decreases-writes
decreases-writes g l = length l.octets - l.at
