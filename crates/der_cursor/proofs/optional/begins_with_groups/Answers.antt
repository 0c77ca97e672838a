use Rattle.std.proofs.Common.{rules}
use Rattle.der_cursor.proofs.TagLaws.{groups_start, groups_1, groups_2, groups_3, groups_4, groups_5}
use Rattle.der_cursor.proofs.optional.begins_with_groups.Goals as goal

pub returns-in-0-to-127 : goal.returns-in-0-to-127
returns-in-0-to-127 c = groups_start c.starts_with.result c.args.octets.now _ c.args.n (groups_1 c.args.n (search rules)) (search rules)

pub returns-in-128-to-16383 : goal.returns-in-128-to-16383
returns-in-128-to-16383 c = groups_start _ c.args.octets.now _ c.args.n (groups_2 c.args.n (search rules) (search rules)) (search rules)

pub returns-in-16384-to-2097151 : goal.returns-in-16384-to-2097151
returns-in-16384-to-2097151 c = groups_start _ c.args.octets.now _ c.args.n (groups_3 c.args.n (search rules) (search rules)) (search rules)

pub returns-in-2097152-to-268435455 : goal.returns-in-2097152-to-268435455
returns-in-2097152-to-268435455 c = groups_start _ c.args.octets.now _ c.args.n (groups_4 c.args.n (search rules) (search rules)) (search rules)

pub returns-in_default : goal.returns-in_default
returns-in_default c = groups_start _ c.args.octets.now _ c.args.n (groups_5 c.args.n (search rules) (search rules)) (search rules)
