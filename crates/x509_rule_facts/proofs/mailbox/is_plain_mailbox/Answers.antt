use Rattle.std.proofs.Common.{None, Some, lit<}
use Rattle.std.proofs.lemmas.Str.Pattern.{split_once_first}
use Rattle.x509_rule_facts.proofs.MailboxLaws.{at_sign, no_sign}
use Rattle.x509_rule_facts.proofs.mailbox.is_plain_mailbox.Goals as goal

pub returns-in-Some : goal.returns-in-Some
returns-in-Some c = at_sign c.args.characters c.args.text.now (split_once_first 64 c.args.text.now (Some (c.in-Some.local, c.in-Some.domain)) c.in-Some.ensures.cases (lit< tt)) c.are_plain_parts.ensures

pub returns-in-None : goal.returns-in-None
returns-in-None c = no_sign c.args.characters c.args.text.now (split_once_first 64 c.args.text.now None c.in-None.ensures.cases (lit< tt))
