-- Lines of the rules that are broken, in loops over these, and whether there are none.
use Rattle.std.proofs.Common.{◌≡◌, ◌⊎◌, ◌↔◌, ◌++◌, ◌∷◌, ◌∙◌, [], Bool, true, false, IsTrue, List, ℕ, append-nil, append_assoc, inl, inr, refl, subst, sym, true≢false}
use Rattle.std.specs.List.{All}
use Rattle.std.proofs.lemmas.List.Elements.{All-head, All-tail}
use Rattle.x509_rule_facts.specs.Firsts.{IsFirstOf}
use Rattle.der_show.specs.Rules.{AreBroken, IsLine}

module _ {R : Type 0} (IsBroken : R → Type 0) (label : List ℕ) where
  -- with any texts of the rules that are left, what was sent makes texts of all of them
  abbrev pub RulesGo : List R → List ℕ → List R → Type 0
  RulesGo all sent left = (others : List ℕ) → AreBroken IsBroken label left others → AreBroken IsBroken label all (sent ++ others)

  -- rules that aren't broken have no text
  passed : (before : List R) (more : List R) (text : List ℕ) → All (λ r. ¬ IsBroken r) before → AreBroken IsBroken label more text → AreBroken IsBroken label (before ++ more) text
  passed [] more text none so = so
  passed (r ∷ before) more text none so = record { first = []; second = text; is_first = inr (All-head (λ (z : R). ¬ IsBroken z) r before none, refl); is_second = passed before more text (All-tail (λ (z : R). ¬ IsBroken z) r before none) so; whole = refl }

  pub rules_start : {all left : List R} → left ≡ all → RulesGo all [] left
  rules_start same others e = subst (λ i. AreBroken IsBroken label i others) same e

  pub rules_on : (all : List R) {left rest : List R} {r : R} (sent text : List ℕ) → IsFirstOf IsBroken left r rest → IsLine label text → RulesGo all sent left → RulesGo all (sent ++ text) rest
  rules_on all {left} {rest} {r} sent text x said go others e =
      let this : AreBroken IsBroken label (r ∷ rest) (text ++ others) = record { first = text; second = others; is_first = inl (x.holds, said); is_second = e; whole = refl } in
      subst (AreBroken IsBroken label all) (sym (append_assoc sent text others)) (go (text ++ others) (subst (λ i. AreBroken IsBroken label i (text ++ others)) (sym x.parts) (passed x.before (r ∷ rest) (text ++ others) x.none this)))

  pub rules_end : (all left : List R) (sent : List ℕ) → All (λ r. ¬ IsBroken r) left → RulesGo all sent left → AreBroken IsBroken label all sent
  rules_end all left sent none go =
      let nothing : AreBroken IsBroken label left [] = subst (λ i. AreBroken IsBroken label i []) (append-nil left) (passed left [] [] none refl) in
      subst (AreBroken IsBroken label all) (append-nil sent) (go [] nothing)

-- what holds of each holds of one of them
one_of : {R : Type 0} (Q : R → Type 0) (before rest : List R) (r : R) → All Q (before ++ r ∷ rest) → Q r
one_of Q [] rest r h = All-head Q r rest h
one_of Q (b ∷ bs) rest r h = one_of Q bs rest r (All-tail Q b (bs ++ r ∷ rest) h)

module _ {R : Type 0} (IsBroken : R → Type 0) where
  -- no rule was found so far, and all are left; or one was found
  abbrev pub KeptSoFar : List R → List R → Bool → Type 0
  KeptSoFar all left keeps = ((keeps ≡ true) × (left ≡ all)) ⊎ ((keeps ≡ false) × (¬ All (λ r. ¬ IsBroken r) all))

  pub kept_start : {all : List R} → KeptSoFar all all true
  kept_start = inl (refl, refl)

  pub kept_no_more : {all left rest : List R} {r : R} {keeps : Bool} → IsFirstOf IsBroken left r rest → KeptSoFar all left keeps → KeptSoFar all rest false
  kept_no_more {rest = rest} {r = r} x (inl k) =
      let Q : R → Type 0 = λ z. ¬ IsBroken z in
      inr (refl, λ none. one_of Q x.before rest r (subst (All Q) x.parts (subst (All Q) (sym k.1) none)) x.holds)
  kept_no_more x (inr k) = inr (refl, k.1)

  pub kept_end : {all left : List R} {keeps : Bool} → All (λ r. ¬ IsBroken r) left → KeptSoFar all left keeps → IsTrue keeps ↔ All (λ r. ¬ IsBroken r) all
  kept_end none (inl k) = (λ t. subst (All (λ (r : R). ¬ IsBroken r)) k.1 none, λ a. k.0)
  kept_end none (inr k) = (λ t. absurd (true≢false (sym t ∙ k.0)), λ a. absurd (k.1 a))
