-- The summaries of inputs.
use Rattle.std.specs.Prelude.{◌≡◌, ℕ, List, Option, Some, MatchOption}
use Rattle.der_show.specs.declared.known.Known.{Known}
use Rattle.der_show.specs.Known.{IsKnown}
use Rattle.der_show.specs.Shown.{IsShown}
use Rattle.dumarewhi_page.specs.Content.Texts.{PutsOne}

-- The summary of a certificate, CRL or certification request at this time, in seconds since 1970; 0 if it is none.
abbrev pub PutsKnown : ℕ → List ℕ → List ℕ → List ℕ → ℕ → Type 0
PutsKnown present i old new n = (found : Option Known) × IsKnown i found
    × MatchOption found (n ≡ 0) (λ known. PutsOne (IsShown (Some present) i known) old new n)
