use Rattle.std.proofs.Common.{length}
use Rattle.x509_rule_facts.proofs.MailboxLaws.{Follows}
use Rattle.x509_rule_facts.proofs.mailbox.quoted_follows.Given as goal

-- what is left says the same
abbrev pub invariant-loop-rest : goal.invariant-loop-rest
invariant-loop-rest l = Follows l.fn.characters l.left l.fn.text

abbrev pub decreases-loop-rest : goal.decreases-loop-rest
decreases-loop-rest l = length l.left
