-- Contents by the answer of their check.
use Rattle.std.proofs.Common.{List, [], ◌∷◌, Result, Ok, Err, refl, inl, inr, IsTrue}
use Rattle.std.specs.Prelude.{◌↔◌, is_ok}
use Rattle.der_contents.specs.declared.content_error.ContentError.{ContentError}
use Rattle.der_contents.specs.ContentRules.{AllHold, Checks, IsFirstBroken, Rule}

-- if a rule is broken, not all hold
not_all : (rs : List Rule) (e : ContentError) → IsFirstBroken rs e → AllHold rs → ⊥
not_all [] e h all = h
not_all (r ∷ rs) e (inl h) all = h.0 all.0
not_all (r ∷ rs) e (inr h) all = not_all rs e h.1 all.1

pub all_by_check : (rs : List Rule) (x : Result (Unit {0}) ContentError) → Checks rs x → IsTrue (is_ok x) ↔ AllHold rs
all_by_check rs (Ok u) h = (λ yes. h, λ all. refl)
all_by_check rs (Err e) h = (λ yes. absurd (cc), λ all. absurd (not_all rs e h all))
