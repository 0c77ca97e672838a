use Rattle.std.proofs.Common.{sym, ◌∙◌}
use Rattle.c_values.proofs.TextsPut.{text_put}
use Rattle.c_values.proofs.tested.put_text.Goals as goal

pub returns-then-is_text_type : goal.returns-then-is_text_type
returns-then-is_text_type c = text_put _ _ _ _ _ (sym c.is_text_type.ensures ∙ c.if-is_text_type.true) c.put_text.ensures
