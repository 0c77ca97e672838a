use Rattle.std.proofs.Common.{sym, ◌∙◌}
use Rattle.der_object.proofs.TextViews.{text_where_all, text_where_none}
use Rattle.der_object.proofs.text.send_coded.Goals as goal

pub returns-then-not-are_characters : goal.returns-then-not-are_characters
returns-then-not-are_characters g c = rw (text_where_none _ (sym c.are_characters.ensures ∙ c.if-not-are_characters.true)) c.send_undecoded.ensures

pub returns : goal.returns
returns g c = rw (text_where_all _ (sym c.are_characters.ensures ∙ c.if-not-are_characters.false)) c.send_decoded.ensures
