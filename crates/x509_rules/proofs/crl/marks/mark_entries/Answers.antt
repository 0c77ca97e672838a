use Rattle.std.proofs.Common.{◌≡◌, ℕ, List, rules, subst, sym}
use Rattle.x509.specs.Crl.Lists.{entries_left, revoked_certificate, revoked_of}
use Rattle.x509.specs.Lists.{Somewhere}
use Rattle.x509.proofs.CrlLaws.CrlLaws.{revoked_exact}
use Rattle.x509.proofs.WalkLaws.{ahead, nowhere}
use Rattle.x509_rules.specs.Crl.Entries.{BreaksEntry}
use Rattle.x509_rules.specs.Crl.Marks.{marked_rule}
use Rattle.x509_rules.proofs.MarkLaws.{MarkedSoFar, marked_all, marked_more, marked_none}
use Rattle.x509_rules.proofs.crl.marks.mark_entries.Goals as goal

pub loop-entry-init : goal.loop-entry-init
loop-entry-init c =
    let e : entries_left c.into_iter-entry-iterator.result ≡ c.args.entries.octets.now = search rules in
    let P : List ℕ → ℕ → Type 0 = λ i n. Somewhere revoked_certificate (λ e _. BreaksEntry (marked_rule n) e) i in
    subst (λ z. MarkedSoFar (P c.args.entries.octets.now) (P z) c.args.marks.now c.args.marks.now) (sym e) (marked_none c.requires)

pub mark_entry-requires : goal.mark_entry-requires
mark_entry-requires c = c.loop-entry.invariant.all

pub loop-entry-preserved : goal.loop-entry-preserved
loop-entry-preserved c = marked_more c.loop-entry.invariant c.mark_entry.ensures (λ n few. ahead {f = revoked_certificate} revoked_exact (revoked_of c.in-Some.entry) c.in-Some.ensures.steps)

pub returns : goal.returns
returns c = marked_all c.loop-entry.invariant (λ n few. nowhere {f = revoked_certificate} c.in-None.ensures.steps.0)
