use Rattle.std.proofs.Common.{rules}
use Rattle.der_cursor.proofs.NextLaws.{first_fails, first_passes, no_first, nothing, parts}
use Rattle.der_cursor.proofs.optional.begins_with_long_tag.Goals as goal

pub returns-in-empty : goal.returns-in-empty
returns-in-empty c = no_first c.args.class c.args.tag.0 c.requires (nothing _ c.in-empty.len_below)

pub returns-then-is_identifier : goal.returns-then-is_identifier
returns-then-is_identifier c = first_passes c.args.class c.args.tag.0 c.requires c.is_identifier.result c.begins_with_groups.result c.is_identifier.ensures c.if-is_identifier.true c.begins_with_groups.ensures (search rules) (parts _ c.in-len1-up.len_at_least)

pub returns-else-is_identifier : goal.returns-else-is_identifier
returns-else-is_identifier c = first_fails c.args.class c.args.tag.0 c.requires c.is_identifier.result c.is_identifier.ensures c.if-is_identifier.false (parts _ c.in-len1-up.len_at_least)
