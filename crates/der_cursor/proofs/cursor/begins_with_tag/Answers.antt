use Rattle.std.proofs.Common.{rules}
use Rattle.der_cursor.proofs.TagLaws.{tag_starts, tag_short, tag_long, tag_longer}
use Rattle.der_cursor.proofs.cursor.begins_with_tag.Goals as goal

pub returns-in-0-to-30 : goal.returns-in-0-to-30
returns-in-0-to-30 c = tag_starts c.starts_with.result c.args.left.now _ c.args.number (tag_short c.args.number (search rules)) c.starts_with.ensures.value

pub returns-in-31-to-127 : goal.returns-in-31-to-127
returns-in-31-to-127 c =
    tag_starts c.starts_with-in-31-to-127.result c.args.left.now _ c.args.number (tag_long c.args.number (search rules) (search rules)) c.starts_with-in-31-to-127.ensures.value

pub returns-in_default : goal.returns-in_default
returns-in_default c =
    tag_starts c.starts_with-in_default.result c.args.left.now _ c.args.number (tag_longer c.args.number (search rules) (search rules)) c.starts_with-in_default.ensures.value
