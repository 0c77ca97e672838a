use Rattle.derdump.proofs.Taken.{gave_more}
use Rattle.std.proofs.Common.{◌≡◌, ◌+◌, length, arith}
use Rattle.derdump.specs.Sources.{octets_left, octets_taken}
use Rattle.derdump.proofs.input.read_input.Goals as goal

pub returns-then-n-len-clause-taken : goal.returns-then-n-len-clause-taken
returns-then-n-len-clause-taken g c =
    let items = c.chunks.input.items in
    let count : octets_taken c.read.new.self ≡ length items + c.in-Some.n = omega (arith, c.in-Some.ensures.taken, c.chunks.invariant.count, c.chunks.input.ok.0) in
    gave_more (octets_left g.R.Read.remaining c.args.reader.now) (octets_left g.R.Read.remaining c.chunks.reader) (octets_left g.R.Read.remaining c.read.new.self) items c.read.new.buffer c.in-Some.n c.chunks.invariant.taken c.in-Some.ensures.octets c.in-Some.ensures.bound count

pub returns-then-is_err-clause-taken : goal.returns-then-is_err-clause-taken
returns-then-is_err-clause-taken g c =
    let items = c.chunks.input.items in
    let count : octets_taken c.read.new.self ≡ length items + c.in-Some.n = omega (arith, c.in-Some.ensures.taken, c.chunks.invariant.count, c.chunks.input.ok.0) in
    gave_more (octets_left g.R.Read.remaining c.args.reader.now) (octets_left g.R.Read.remaining c.chunks.reader) (octets_left g.R.Read.remaining c.read.new.self) items c.read.new.buffer c.in-Some.n c.chunks.invariant.taken c.in-Some.ensures.octets c.in-Some.ensures.bound count
