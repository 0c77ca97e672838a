use Rattle.std.proofs.Common.{◌≡◌, ◌++◌, ◌∷◌, ◌∙◌, ℕ, List, append_assoc, ap, drop, sym, take-append-drop}
use Rattle.std.specs.List.{IsSplitAt}
use Rattle.std.proofs.lemmas.Option.{IfSome_then}
use Rattle.std.specs.Cmp.Lexicographic.{same_text}
use Rattle.oid_names.proofs.name_at.Goals as goal

joined : (l front back : List ℕ) (n : ℕ) → IsSplitAt l n front back → l ≡ front ++ back
joined l front back n s = sym (take-append-drop n l) ∙ ap (λ w. w ++ drop n l) (sym s.1) ∙ ap (λ w. front ++ w) (sym s.2)

lined : (table before line first rest digits name after : List ℕ) → table ≡ before ++ line → line ≡ first ++ rest → first ≡ digits → rest ≡ 32 ∷ (name ++ 10 ∷ after)
    → table ≡ before ++ (digits ++ 32 ∷ name) ++ 10 ∷ after
lined table before line first rest digits name after e1 e2 e3 e4 =
    e1 ∙ ap (λ w. before ++ w) (e2 ∙ ap (λ w. w ++ rest) e3 ∙ ap (λ w. digits ++ w) e4) ∙ simp append_assoc

-- the line has the digits, and the name after them
pub returns-then-ends_line : goal.returns-then-ends_line
returns-then-ends_line c =
    let before = c.in_ok-before.before.now in
    let line = c.in_ok-before.line.now in
    let first = c.in_ok-first.first.now in
    let rest = c.in_ok-first.rest.now in
    IfSome_then c.name_behind.result c.name_behind.ensures
    (λ name k.
    let whole = lined c.args.table.now before line first rest c.args.digits.now name.now k.0 (joined _ _ _ _ c.in_ok-before.ensures.cases) (joined _ _ _ _ c.in_ok-first.ensures.cases) (same_text first c.args.digits.now c.if-eq.ensures) k.1 in
    (before, k.0, whole, c.ends_line.ensures c.if-ends_line.true))
