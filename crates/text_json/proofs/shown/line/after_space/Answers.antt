use Rattle.std.proofs.Common.{None, lit<}
use Rattle.std.proofs.lemmas.Str.Pattern.{strip_prefix_char}
use Rattle.text_json.proofs.ShownLaws.LineLaws.{no_space}
use Rattle.text_json.proofs.shown.line.after_space.Goals as goal

pub returns-in-None : goal.returns-in-None
returns-in-None c = no_space c.args.text.now (strip_prefix_char 32 c.args.text.now None c.in-None.ensures.cases (lit< tt))
