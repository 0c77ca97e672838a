-- What is on a line.
use Rattle.std.proofs.Common.{◌≡◌, ◌≢◌, ℕ, ◌+◌, Bool, true, false, List, [], ◌∷◌, length, drop, None, refl, sym, ap, ◌∙◌, arith}
use Rattle.std.specs.Prelude.{◌==◌, if◌then◌else◌}
use Rattle.std.specs.List.{after_first, position_or_len}
use Rattle.std.proofs.lemmas.Bool.Decides.{nat_tests}
use Rattle.std.proofs.lemmas.List.{drop_all}
use Rattle.text_json.specs.Shown.Lines.{after_space, is_colon, not_empty}

kept : (c : ℕ) (text : List ℕ) (b : Bool) → (c == 0x20) ≡ b → ((rest : List ℕ) → (c ∷ text) ≢ (0x20 ∷ rest)) → after_space (c ∷ text) ≡ c ∷ text
kept c text true e none = absurd (none text (let same : c ≡ 0x20 = grind (arith, nat_tests) in ap (λ d. d ∷ text) same))
kept c text false e none = ap (λ b. if b then text else c ∷ text) e

pub no_space : (text : List ℕ) → ((rest : List ℕ) → text ≢ (0x20 ∷ rest)) → text ≡ after_space text
no_space [] none = refl
no_space (c ∷ text) none = sym (kept c text (c == 0x20) refl none)

pub no_value : (content : List ℕ) → position_or_len is_colon content ≡ length content → None ≡ not_empty (after_space (after_first is_colon content))
no_value content e =
    sym (ap (λ rest. not_empty (after_space rest)) (ap (λ n. drop (n + 1) content) e ∙ drop_all (length content + 1) content (omega arith)))
