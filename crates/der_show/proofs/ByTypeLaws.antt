-- The words of octets by a known type.
use Rattle.std.proofs.Common.{ℕ, Option, Some, None, List, [], ◌∷◌, ◌++◌, Result, Ok, Err, IfOk, subst}
use Rattle.std.specs.List.{All}
use Rattle.std.proofs.lemmas.List.Elements.{All-head, All-tail}
use Rattle.der_known.specs.declared.known.KnownTypes.{KnownTypes}
use Rattle.der_schema.specs.declared.known.KnownType.{KnownType}
use Rattle.der_schema.specs.declared.schema.Schema.{Schema}
use Rattle.der_schema.specs.declared.schema.Component.{Component}
use Rattle.der_schema.specs.Known.{IsFirstSchema}
use Rattle.der_show.specs.declared.words.Words.{Words}
use Rattle.der_show.specs.ByTypes.{HasWords, ShowsByType}

-- octets that are so have the words of the type, if they have some
shows : (IsSo : List ℕ → Type 0) (types : KnownTypes) (name i : List ℕ) (found : Option Words) → IsSo i
    → HasWords types name i found → ShowsByType IsSo types name i found
shows IsSo types name i (Some w) is words = (is, words)
shows IsSo types name i None is none = λ w _. none w

pub shows_on : {E : Type 0} (IsSo : List ℕ → Type 0) (types : KnownTypes) (name i : List ℕ)
    (r : Result (Option Words) E) → IsSo i → IfOk r (HasWords types name i)
    → IfOk r (ShowsByType IsSo types name i)
shows_on IsSo types name i (Ok found) is words = shows IsSo types name i found is words
shows_on IsSo types name i (Err e) is words = tt

none_of : (P : KnownType → Type 0) (before after : List KnownType) (k : KnownType)
    → All (λ z. ¬ P z) (before ++ k ∷ after) → P k → ⊥
none_of P [] after k all it = All-head (λ z. ¬ P z) k after all it
none_of P (b ∷ before) after k all it =
    none_of P before after k (All-tail (λ z. ¬ P z) b (before ++ k ∷ after) all) it

-- where no type is found there is none
pub not_found : (P : KnownType → Type 0) (ks : List KnownType) (ts : List Component) (sc : Schema)
    → IsFirstSchema P ks ts None → IsFirstSchema P ks ts (Some sc) → ⊥
not_found P ks ts sc none first =
    let f = first.1 in none_of P f.before f.after first.0 (subst (All (λ z. ¬ P z)) f.parts none) f.holds
