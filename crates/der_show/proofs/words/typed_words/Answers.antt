use Rattle.std.proofs.Common.{inl, inr, refl}
use Rattle.std.proofs.lemmas.Result.{IfOk-weaker}
use Rattle.der_show.proofs.words.typed_words.Goals as goal

pub returns-in-Ok-Some : goal.returns-in-Ok-Some
returns-in-Ok-Some c =
    let shown = rw c.in-Ok-Some.field-0-is at c.in-Ok-Some.ensures in
    inl (c.in-Ok-Some.words, shown, refl)

pub returns-in-Ok-None : goal.returns-in-Ok-None
returns-in-Ok-None c =
    let none = rw c.in-Ok-None.field-0-is at c.in-Ok-None.ensures in
    IfOk-weaker _ _ _ (λ found h. inr (none, h)) c.words_by_fields.ensures
