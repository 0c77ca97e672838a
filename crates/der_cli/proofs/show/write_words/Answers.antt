use Rattle.der_cli.specs.Shown.{source_of}
use Rattle.der_cli.proofs.Showing.{kept_words}
use Rattle.der_cli.proofs.show.write_words.Goals as goal

pub returns-clause-written : goal.returns-clause-written
returns-clause-written g c =
    let s = source_of c.args.origin in
    let old = g.W.Write.contents c.args.out.now in
    let put = g.W.Write.contents c.put_words.new.out in
    let new = g.W.Write.contents c.flush.new.self in
    (s, kept_words s c.args.options.now c.args.octets.now c.args.words.now old put new c.in_ok-put_words.ensures c.in_ok-flush.ensures.bytes)
