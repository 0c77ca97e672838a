use Rattle.std.proofs.lemmas.List.{nil_from_length}
use Rattle.x509_rule_facts.proofs.MailboxLaws.{literal_ends, no_literal}
use Rattle.x509_rule_facts.proofs.mailbox.is_literal_content.Goals as goal

pub returns-in-Some : goal.returns-in-Some
returns-in-Some c = literal_ends c.in-Some.ensures.cases c.is_closed_by.ensures

pub returns-in-None : goal.returns-in-None
returns-in-None c = no_literal (nil_from_length _ c.in-None.ensures.cases)
