use Rattle.std.proofs.Common.{inl, inr}
use Rattle.std.proofs.lemmas.Result.{IfOk-weaker}
use Rattle.der_show.proofs.words.words_of.Goals as goal

pub returns-in-Some : goal.returns-in-Some
returns-in-Some c = IfOk-weaker _ _ _ (λ w h. inl (c.in-Some.known, c.in-Some.ensures, h)) c.words_of_known.ensures

pub returns-in-None : goal.returns-in-None
returns-in-None c =
    IfOk-weaker _ _ _ (λ w h. inr (c.in-None.ensures, c.new-types.result, c.new-types.ensures, h)) c.other_words.ensures
