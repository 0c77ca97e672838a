use Rattle.std.proofs.lemmas.Str.{IsUtf8-from_ascii}
use Rattle.der_base.proofs.Leaves.Texts.{ascii_of_all}
use Rattle.der_base.proofs.text.ascii_text.Goals as goal

pub from_utf8_unchecked-requires : goal.from_utf8_unchecked-requires
from_utf8_unchecked-requires c = IsUtf8-from_ascii c.args.content.now (ascii_of_all c.args.content.now c.requires)
