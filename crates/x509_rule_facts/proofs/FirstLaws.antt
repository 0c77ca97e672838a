-- The first of some for which a fact holds.
use Rattle.std.proofs.Common.{◌≡◌, ◌≤◌, List, [], ◌∷◌, ◌++◌, length, arith, refl, sym, ap, subst, ◌∙◌, append_assoc}
use Rattle.std.specs.List.{All, IsFirstAndRest}
use Rattle.std.proofs.lemmas.List.{append-nil, nil_from_length}
use Rattle.std.proofs.lemmas.List.Elements.{All-nil, All-append, All-cons}
use Rattle.x509_rule_facts.specs.Firsts.{IsFirstOf}

-- of those before it holds for none
pub record Searched {X : Type 0} (P : X → Type 0) (all ahead : List X) : Type 0 where
  pub before : List X
  pub parts : all ≡ before ++ ahead
  pub none : All (λ z. ¬ P z) before
  pub fits : length ahead ≤ length all

module _ {X : Type 0} {P : X → Type 0} {all : List X} where
  pub nothing_searched : Searched P all all
  nothing_searched = record { before = []; parts = refl; none = All-nil (λ (z : X). ¬ P z); fits = omega arith }

  pub searched_one : {ahead rest : List X} {x : X} → Searched P all ahead → IsFirstAndRest ahead x rest → ¬ P x → Searched P all rest
  searched_one {rest = rest} {x = x} s e never = record {
    before = s.before ++ x ∷ [];
    parts = s.parts ∙ ap (λ (l : List X). s.before ++ l) e.0 ∙ sym (append_assoc s.before (x ∷ []) rest);
    none = All-append (λ (z : X). ¬ P z) s.before (x ∷ []) s.none (All-cons (λ (z : X). ¬ P z) x [] never (All-nil (λ (z : X). ¬ P z)));
    fits = omega (arith, s.fits, e.1);
  }

  pub found_first : {ahead rest : List X} {x : X} → Searched P all ahead → IsFirstAndRest ahead x rest → P x → IsFirstOf P all x rest
  found_first s e it = record {
    before = s.before;
    parts = s.parts ∙ ap (λ (l : List X). s.before ++ l) e.0;
    none = s.none;
    holds = it;
    fewer = omega (arith, s.fits, e.1);
  }

  pub found_none : {ahead : List X} → Searched P all ahead → length ahead ≡ 0 → All (λ z. ¬ P z) all
  found_none {ahead = ahead} s e =
      subst (All (λ (z : X). ¬ P z)) (sym (s.parts ∙ ap (λ (l : List X). s.before ++ l) (nil_from_length ahead e) ∙ append-nil s.before)) s.none
