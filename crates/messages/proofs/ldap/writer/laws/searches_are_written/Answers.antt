use Rattle.messages.proofs.LdapLaws.WriterLaws.Read.{search_only}
use Rattle.messages.proofs.ldap.writer.laws.searches_are_written.Goals as goal

pub returns : goal.returns
returns c = search_only
