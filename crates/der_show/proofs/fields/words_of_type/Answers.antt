use Rattle.std.proofs.Common.{inl, inr, refl, sym, true≢false}
use Rattle.std.proofs.lemmas.Result.{IfOk-weaker}
use Rattle.der_show.proofs.fields.words_of_type.Goals as goal

pub returns-then-is_in_words : goal.returns-then-is_in_words
returns-then-is_in_words c = λ t.
    IfOk-weaker _ _ _ (λ w words. inl (c.if-is_in_words.ensures.0 refl, words)) (c.type_words.ensures t)

pub returns-else-is_in_words : goal.returns-else-is_in_words
returns-else-is_in_words c = λ t.
    IfOk-weaker _ _ _ (λ w words. inr (λ is. true≢false (sym (c.if-is_in_words.ensures.1 is)), words)) (c.fields_of_type.ensures t)
