use Rattle.std.proofs.Common.{None, inr, lit<, refl}
use Rattle.std.proofs.lemmas.Str.Pattern.{split_once_first}
use Rattle.oid_names.proofs.OwnLaws.{no_space}
use Rattle.oid_names.proofs.own.read_entry.Goals as goal

pub returns-in_default : goal.returns-in_default
returns-in_default c =
    let content = c.args.content.now in
    inr (refl, no_space content (split_once_first 32 content None c.in_default.ensures.cases (lit< tt)))
