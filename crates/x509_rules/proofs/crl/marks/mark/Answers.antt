use Rattle.std.proofs.Common.{refl}
use Rattle.x509.specs.Crl.Lists.{revoked_of}
use Rattle.x509_rules.proofs.MarkLaws.{marked_one}
use Rattle.x509_rules.proofs.crl.marks.mark.Goals as goal

pub returns-then-breaks_sorted : goal.returns-then-breaks_sorted
returns-then-breaks_sorted c =
    let asked = rw c.rule_at.ensures at c.if-breaks_sorted.ensures in
    marked_one (revoked_of c.args.entry.now) (asked.0 refl) c.set.ensures
