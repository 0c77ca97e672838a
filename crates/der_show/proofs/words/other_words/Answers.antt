use Rattle.std.proofs.Common.{ℕ, List, Option, Some, None, inl, inr, subst, sym}
use Rattle.std.proofs.lemmas.Result.{IfOk-weaker}
use Rattle.der_known.specs.declared.known.KnownTypes.{KnownTypes}
use Rattle.der_show.specs.declared.words.Words.{Words}
use Rattle.der_show.specs.Described.{AreOtherWords, AreTypedWords}
use Rattle.der_show.specs.Messages.{IsKeyText}
use Rattle.der_show.proofs.words.other_words.Goals as goal

no_key : (now : Option ℕ) (types : KnownTypes) (i : List ℕ) (words : Option Words) → IsKeyText i None
    → AreTypedWords now types i words → AreOtherWords now types i words
no_key now types i (Some w) none h = inr (none, h)
no_key now types i None none h = (none, h)

pub returns-in-Ok-Some : goal.returns-in-Ok-Some
returns-in-Ok-Some c =
    let shown = rw c.in-Ok-Some.field-0-is at c.in-Ok-Some.ensures in
    let made = c.words_alone.ensures in
    inl (subst (λ t. IsKeyText c.args.octets.now (Some t)) (sym made.text) shown, made.start, made.rules, made.by_type)

pub returns-in-Ok-None : goal.returns-in-Ok-None
returns-in-Ok-None c =
    let none = rw c.in-Ok-None.field-0-is at c.in-Ok-None.ensures in
    IfOk-weaker _ _ _ (λ words h. no_key c.args.now c.args.types.now c.args.octets.now words none h) c.typed_words.ensures
