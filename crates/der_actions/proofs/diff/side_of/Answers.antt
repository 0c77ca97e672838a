use Rattle.std.proofs.Common.{◌≡◌, Bool, Err, IfOk, MatchOption, None, Ok, Option, Result, Some, false, inl, inr, true, ℕ, List}
use Rattle.der_elements.specs.Visits.{Visited}
use Rattle.der_actions.specs.Differences.{AreElementsOf, IsNoSide}
use Rattle.der_actions.specs.Namings.{IsAsAsked}
use Rattle.der_actions.specs.Outputs.{IsRefusedAfter}
use Rattle.der_actions.proofs.diff.side_of.Goals as goal

taken : {A E : Type 0} (r : Result (Option A) E) (P Q : Type 0) (S T : A → Type 0) → (P → Q) → ((x : A) → S x → T x)
    → IfOk r (λ found. MatchOption found P S) → IfOk r (λ found. MatchOption found Q T)
taken (Ok None) P Q S T f g h = f h
taken (Ok (Some x)) P Q S T f g h = g x h
taken (Err e) P Q S T f g h = tt

no_truth : {P : Type 0} {b : Bool} → b ≡ false → b ≡ true → P
no_truth p q = cc

pub returns-then-is_as_asked : goal.returns-then-is_as_asked
returns-then-is_as_asked g c =
    let o = c.args.options.now in
    let i = c.args.octets.now in
    taken c.elements_of.result ((vs : List Visited) × IsRefusedAfter o i vs) (IsNoSide o i)
    (λ elements. IsAsAsked o.naming o.rules i → AreElementsOf o i elements.items) (λ elements. AreElementsOf o i elements.items) (λ p. inl p)
    (λ elements are. are (c.is_as_asked.ensures.0 c.if-is_as_asked.true)) c.elements_of.ensures

pub returns : goal.returns
returns g c = inr (λ asked. no_truth c.if-is_as_asked.false (c.is_as_asked.ensures.1 asked))
