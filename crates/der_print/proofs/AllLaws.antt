-- Whether all octets are so, found one after another.
use Rattle.std.proofs.Common.{◌≡◌, ◌∙◌, ◌+◌, ◌<◌, ◌&&◌, Bool, List, ap, length, slice_index_or, sym, take, ℕ}
use Rattle.std.proofs.lemmas.List.Folds.{list_all_more}
use Rattle.std.specs.List.{list_all}

-- one more octet
pub one_more : (p : ℕ → Bool) (w : List ℕ) (i : ℕ) {so next : Bool} → i < length w → so ≡ list_all p (take i w)
    → next ≡ p (slice_index_or w i 0) → (so && next) ≡ list_all p (take (i + 1) w)
one_more p w i {so = so} {next = next} inside before is =
    ap (λ b. b && next) before ∙ ap (λ b. list_all p (take i w) && b) is ∙ sym (list_all_more p w i 0 inside)
