use Rattle.std.proofs.Common.{◌+◌, ◌*◌, length}
use Rattle.messages.specs.Ldap.Filters.{FilterField}
use Rattle.messages.proofs.LdapLaws.FilterLaws.{Joined}
use Rattle.messages.proofs.ldap.filters.+filters.Given as goal

abbrev pub decreases-read_filter : goal.decreases-read_filter
decreases-read_filter l = 4 * l.depth

abbrev pub decreases-read_connective : goal.decreases-read_connective
decreases-read_connective l = 4 * l.depth + 3

abbrev pub decreases-read_inside : goal.decreases-read_inside
decreases-read_inside l = 4 * l.depth + 2

abbrev pub decreases-read_filters : goal.decreases-read_filters
decreases-read_filters l = 4 * l.depth + 1

-- the parts of the filters so far were added
abbrev pub invariant-read_filters-filters : goal.invariant-read_filters-filters
invariant-read_filters-filters l = Joined (FilterField l.depth) l.initial.inside l.rest l.initial.parts.items l.parts.items

abbrev pub decreases-read_filters-filters : goal.decreases-read_filters-filters
decreases-read_filters-filters l = length l.rest.left.now
