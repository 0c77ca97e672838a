-- The elements of a walk that are listed.
use Rattle.std.proofs.Common.{◌≡◌, ◌≢◌, ◌∙◌, Bool, IsTrue, MatchBool, List, [], ◌∷◌, ◌++◌, ap, false, refl, subst, sym, true, ℕ}
use Rattle.std.specs.Prelude.{◌↔◌, ◌||◌, Option}
use Rattle.der_elements.specs.Visits.{Visited}
use Rattle.der_actions.specs.declared.listing.Listing.{Listing}
use Rattle.der_actions.specs.declared.options.Options.{Options}
use Rattle.der_actions.specs.Choices.{HasChosen, Listed, Lists, listed, listed_after, passed}
use Rattle.der_actions.specs.Places.{FollowsPath, IsAsked, around_after, is_listed}
use Rattle.der_schema.specs.declared.schema.Schema.{Schema}

or_true : (b : Bool) → (b || true) ≡ true
or_true true = refl
or_true false = refl

or_false : (b : Bool) → (b || false) ≡ b
or_false true = refl
or_false false = refl

not_both : {P : Type 0} {b : Bool} → b ≡ true → b ≡ false → P
not_both p q = cc

some_last : {A : Type 0} (us : List A) (v : A) → us ++ v ∷ [] ≢ []
some_last [] v e = cc
some_last (u ∷ us) v e = cc

-- one more element
pub chosen_more : (s : Option Schema) (i : List ℕ) (o : Options) (l l' : Listing) (vs : List Visited) (us : List Listed) (v : Visited) (asked taken : Bool) → HasChosen s i o l vs us
    → l'.place ≡ l.place → l'.depth ≡ l.depth → l'.around ≡ around_after l.around asked v.depth → FollowsPath o.place l'.trail (vs ++ v ∷ [])
    → (IsTrue asked ↔ IsAsked s i o.place vs v) → taken ≡ is_listed (around_after l.around asked v.depth) l.depth v.depth → l'.has_some ≡ (l.has_some || taken)
    → MatchBool taken (HasChosen s i o l' (vs ++ v ∷ []) (us ++ listed_after vs v ∷ [])) (HasChosen s i o l' (vs ++ v ∷ []) us)
chosen_more s i o l l' vs us v asked true h place depth around path asks is some = record {
  place = place ∙ h.place;
  depth = depth ∙ h.depth;
  lists =
      subst (λ a. Lists s i o.place o.depth (vs ++ v ∷ []) a (us ++ listed_after vs v ∷ [])) (sym around)
      (listed v asked h.lists asks (sym (is ∙ ap (λ most. is_listed (around_after l.around asked v.depth) most v.depth) h.depth)));
  trail = path;
  some = λ e. some_last us (listed_after vs v);
  none = λ e. not_both (some ∙ or_true l.has_some) e;
}
chosen_more s i o l l' vs us v asked false h place depth around path asks is some = record {
  place = place ∙ h.place;
  depth = depth ∙ h.depth;
  lists =
      subst (λ a. Lists s i o.place o.depth (vs ++ v ∷ []) a us) (sym around)
      (passed v asked h.lists asks (sym (is ∙ ap (λ most. is_listed (around_after l.around asked v.depth) most v.depth) h.depth)));
  trail = path;
  some = λ e. h.some (sym (some ∙ or_false l.has_some) ∙ e);
  none = λ e. h.none (sym (some ∙ or_false l.has_some) ∙ e);
}
