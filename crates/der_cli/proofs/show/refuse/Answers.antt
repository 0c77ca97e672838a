use Rattle.std.proofs.Common.{subst}
use Rattle.der_show.specs.Messages.{text_in}
use Rattle.der_cli.specs.Shown.{AddsFoundFrom, IsTextOf, source_of}
use Rattle.der_cli.proofs.Showing.{kept_found}
use Rattle.der_cli.proofs.show.refuse.Goals as goal

pub returns-clause-shows : goal.returns-clause-shows
returns-clause-shows g c =
    let o = c.args.options.now in
    let i = c.args.octets.now in
    let s = source_of c.args.origin in
    let text = text_in c.in_ok-found.found in
    let old = g.W.Write.contents c.args.out.now in
    let put = g.W.Write.contents c.put_found.new.out in
    let new = g.W.Write.contents c.flush.new.self in
    let adds = subst (λ u. AddsFoundFrom s o i u text old put) c.as_ref-2.ensures.value c.in_ok-put_found.ensures in
    record {
      unread = c.unread_of-unread.result;
      why = c.unread_of-unread.ensures;
      text = text;
      is_text = subst (λ u. IsTextOf o.present i u text) c.as_ref.ensures.value c.in_ok-found.ensures;
      source = s;
      adds = kept_found s o i c.unread_of-unread.result text old put new adds c.in_ok-flush.ensures.bytes;
    }
