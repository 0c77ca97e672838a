use Rattle.std.proofs.Common.{◌<◌, refl, rules}
use Rattle.x509_rules.specs.Crl.Marks.{mark_count}
use Rattle.x509_rules.proofs.MarkLaws.{tells}
use Rattle.x509_rules.proofs.crl.marks.marked.Goals as goal

pub returns-then-is_same : goal.returns-then-is_same
returns-then-is_same c =
    let few : c.loop-place.place < mark_count = search rules in
    λ i m. tells m c.loop-place.place few c.rule_at.ensures (c.if-is_same.ensures refl) c.is_marked.ensures
