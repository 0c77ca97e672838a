use Rattle.std.proofs.Common.{◌≡◌, ◌≤◌, ◌-◌, vec_len, length}
use Rattle.std.specs.Io.KnownBytes.{Consumes}
use Rattle.derdump.specs.declared.source.Standing.TheVariants.{Open}
use Rattle.derdump.specs.Sources.{octets_left, octets_taken, standing_of}
use Rattle.derdump.proofs.input.read_input.Given as goal

abbrev pub invariant-chunks : goal.invariant-chunks
invariant-chunks g l = record {
  stands : standing_of l.reader ≡ Open;
  count : octets_taken l.reader ≡ vec_len l.input;
  bound : vec_len l.input ≤ 67108864;
  room : length l.chunk ≡ 16384;
  taken : Consumes (octets_left g.R.Read.remaining l.fn.reader) (octets_left g.R.Read.remaining l.reader) l.input.items;
}

abbrev pub decreases-chunks : goal.decreases-chunks
decreases-chunks g l = 67108864 - vec_len l.input
