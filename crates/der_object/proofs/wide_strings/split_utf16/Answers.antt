use Rattle.std.proofs.Common.{ap, ◌∙◌}
use Rattle.std.proofs.lemmas.Str.{utf16_chars-nil}
use Rattle.std.specs.Char.Utf16.{utf16_chars}
use Rattle.der_object.proofs.wide_strings.split_utf16.Goals as goal

pub returns-in_default : goal.returns-in_default
returns-in_default c = ap utf16_chars c.in_default.ensures ∙ utf16_chars-nil
