use Rattle.messages.proofs.LdapLaws.FilterLaws.{filter_read, filter_refused}
use Rattle.messages.proofs.ldap.filters.read_search_filter.Goals as goal

pub returns-in_err-read_filter : goal.returns-in_err-read_filter
returns-in_err-read_filter c = filter_refused c.in_err-read_filter.ensures c.from_residual.ensures.1

pub returns : goal.returns
returns c = filter_read c.new-parts.ensures.items c.in_ok-read_filter.ensures
