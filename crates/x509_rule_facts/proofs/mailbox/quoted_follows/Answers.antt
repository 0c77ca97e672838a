use Rattle.std.proofs.Common.{refl}
use Rattle.x509_rule_facts.proofs.MailboxLaws.{follows_start, passed, stopped}
use Rattle.x509_rule_facts.proofs.mailbox.quoted_follows.Goals as goal

pub loop-rest-init : goal.loop-rest-init
loop-rest-init c = follows_start refl

pub loop-rest-preserved : goal.loop-rest-preserved
loop-rest-preserved c = passed c.in-Some.ensures.0 c.loop-rest.invariant

pub returns : goal.returns
returns c = stopped c.in_default.ensures c.loop-rest.invariant c.closes.ensures
