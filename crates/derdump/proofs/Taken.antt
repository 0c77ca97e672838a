-- One read after another.
use Rattle.std.proofs.Common.{◌≡◌, ℕ, ◌+◌, ◌≤◌, List, ◌++◌, length, take, ◌∙◌, sym, ap}
use Rattle.std.proofs.KnownBytes.{Consumes-trans}
use Rattle.std.proofs.lemmas.List.{length-append, length-take-le}
use Rattle.std.specs.Prelude.{Option}
use Rattle.std.specs.Io.KnownBytes.{Consumes}
use Rattle.derdump.specs.Sources.{GaveOctets}

-- the octets of one read more
pub gave_more : (a b c : Option (List ℕ)) {t : ℕ} (w chunk : List ℕ) (n : ℕ) → Consumes a b w → Consumes b c (take n chunk) → n ≤ length chunk → t ≡ length w + n → GaveOctets a c t
gave_more a b c w chunk n p q fits count =
    (w ++ take n chunk, length-append w (take n chunk) ∙ ap (λ k. length w + k) (length-take-le n chunk fits) ∙ sym count, Consumes-trans a b c w (take n chunk) p q)
