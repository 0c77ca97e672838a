use Rattle.std.proofs.Common.{rules, Bool, ◌==◌, refl, sym, ◌∙◌}
use Rattle.std.specs.Bool.{one_answer}
use Rattle.std.proofs.lemmas.Bool.Decides.{Decides-and}
use Rattle.std.specs.Cmp.{IsEquivalence, decided, unsigned_Decides}
use Rattle.der_base.specs.declared.error.Err.TheVariants.{Incomplete, Error, Failure, OutOfMemory}
use Rattle.der_base.specs.Copies.{EqualsAre, AreAlikeElements, AreAlikeErrors}
use Rattle.der_base.specs.TreeEquality.{same_node}
use Rattle.der_base.proofs.TreeEqualityLaws.{same_node-Decides}
use Rattle.der_base.proofs.laws.equals_are_alike.Goals as goal

pub returns-clause-trees : goal.returns-clause-trees
returns-clause-trees c = decided same_node same_node-Decides

pub returns-clause-any : goal.returns-clause-any
returns-clause-any c = search rules

pub returns-clause-span : goal.returns-clause-span
returns-clause-span c x y = Decides-and _ (x.inside == y.inside) (returns-clause-any c x.element y.element) (unsigned_Decides x.inside y.inside)

equivalence : {X : Type 0} (Alike : X → X → Type 0) (eq : X → X → Bool) → EqualsAre Alike eq
    → ((a : X) → Alike a a) → ((a b : X) → Alike a b → Alike b a)
    → ((a b d : X) → Alike a b → Alike b d → Alike a d) → IsEquivalence eq
equivalence Alike eq h same back along = record {
  refl = λ x. (h x x).1 (same x);
  symm = λ x y. one_answer (eq x y) (eq y x) (h x y) (λ e. back y x ((h y x).0 e), λ a. (h y x).1 (back x y a));
  congr = λ x y z e.
      let a = (h x y).0 e in
      one_answer (eq x z) (eq y z) (h x z) (λ f. along x y z a ((h y z).0 f), λ b. (h y z).1 (along y x z (back x y a) b));
}

pub returns-clause-elements : goal.returns-clause-elements
returns-clause-elements c =
    equivalence AreAlikeElements _ (returns-clause-any c)
    (λ a. ((refl, refl, refl), refl))
    (λ a b h. ((sym h.0.0, sym h.0.1, sym h.0.2), sym h.1))
    (λ a b d h k. ((h.0.0 ∙ k.0.0, h.0.1 ∙ k.0.1, h.0.2 ∙ k.0.2), h.1 ∙ k.1))

pub returns-clause-error : goal.returns-clause-error
returns-clause-error c = search rules

pub returns-clause-errors : goal.returns-clause-errors
returns-clause-errors c =
    equivalence AreAlikeErrors _ (returns-clause-error c) (λ a. refl) (λ a b h. sym h) (λ a b d h k. h ∙ k)

pub returns-clause-answer : goal.returns-clause-answer
returns-clause-answer c (Incomplete n) (Incomplete m) = search rules
returns-clause-answer c (Error e) (Error e') = returns-clause-error c e e'
returns-clause-answer c (Failure e) (Failure e') = returns-clause-error c e e'
returns-clause-answer c OutOfMemory OutOfMemory = search rules
returns-clause-answer c _ _ = search rules
