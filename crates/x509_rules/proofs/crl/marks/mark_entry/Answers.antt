use Rattle.std.proofs.Common.{◌≤◌, rules}
use Rattle.x509.specs.Crl.Lists.{revoked_of}
use Rattle.x509_rules.specs.Crl.Marks.{mark_count}
use Rattle.x509_rules.proofs.MarkLaws.{from_start, marked_all, marked_more, none_behind, one_of_them}
use Rattle.x509_rules.proofs.crl.marks.mark_entry.Goals as goal

pub loop-place-init : goal.loop-place-init
loop-place-init c = from_start (revoked_of c.args.entry.now) c.requires

pub mark-requires-clause-all : goal.mark-requires-clause-all
mark-requires-clause-all c = c.loop-place.invariant.all

pub loop-place-preserved : goal.loop-place-preserved
loop-place-preserved c = marked_more c.loop-place.invariant c.mark.ensures (λ n few. one_of_them (revoked_of c.args.entry.now) c.loop-place.place n)

pub returns : goal.returns
returns c =
    let end : mark_count ≤ c.loop-place.place = search rules in
    marked_all c.loop-place.invariant (λ n few. none_behind (revoked_of c.args.entry.now) c.loop-place.place end n few)
