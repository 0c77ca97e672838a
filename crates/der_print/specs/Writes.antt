-- What is written of which more than one text may be right.
use Rattle.std.specs.Prelude.{◌≡◌, ℕ, nat_le, Bool, List, length, take, IfOk, IsOk, Result}
use Rattle.std.specs.Fmt.{HasWritten, IsPlainFormatter}
use Rattle.std.specs.List.{concat}
use Rattle.std.specs.declared.fmt.Formatter.{Formatter}
use Rattle.std.specs.declared.fmt.Error.{Error}

-- if f is plain and r is `Ok`, then g is f after writing one of the texts that are right
abbrev pub WritesOne : {W : Type 0} → (W → List ℕ → W → Type 0) → Formatter W → Result (Unit {0}) Error
    → (List ℕ → Type 0) → Formatter W → Type 0
WritesOne took f r right g = IsPlainFormatter f → IsOk r → (text : List ℕ) × right text × HasWritten took f text g

-- if f is plain and r is `Ok`, then g is f after writing some texts, n of them at most, and r says whether those are
-- all
abbrev pub WritesFirst : {W : Type 0} → (W → List ℕ → W → Type 0) → Formatter W → Result Bool Error → ℕ
    → List (List ℕ) → Formatter W → Type 0
WritesFirst took f r n texts g = IsPlainFormatter f
    → IfOk r (λ all. (all ≡ nat_le (length texts) n) × HasWritten took f (concat (take n texts)) g)
