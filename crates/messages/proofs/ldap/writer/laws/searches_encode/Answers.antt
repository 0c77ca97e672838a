use Rattle.messages.proofs.LdapLaws.WriterLaws.Searches.{search_encodes}
use Rattle.messages.proofs.ldap.writer.laws.searches_encode.Goals as goal

pub returns : goal.returns
returns c = search_encodes
