use Rattle.x509.specs.Crl.Lists.{entries_left, revoked_certificate}
use Rattle.x509.proofs.WalkLaws.{IsStill}
use Rattle.x509_rules.specs.Crl.Entries.{BreaksEntry}
use Rattle.x509_rules.proofs.crl.entries.is_one_broken.Given as goal

-- what is asked is asked of the entries that are left
abbrev pub invariant-loop-entry : goal.invariant-loop-entry
invariant-loop-entry l = IsStill revoked_certificate (λ e _. BreaksEntry l.fn.rule e) l.fn.entries.octets.now (entries_left l.entry-iterator)
