-- A line that grows by a part, as much of it as fits.
use Rattle.std.specs.Prelude.{◌≡◌, ℕ, Option, List, ◌++◌}
use Rattle.der_print.specs.declared.style.Limit.{Limit}
use Rattle.der_print.specs.Cuts.{behind, cut}
use Rattle.der_print.specs.Lines.{IsEnding}
use Rattle.der_print.specs.Shown.{IsShown}
use Rattle.der_print.specs.Texts.{octets_in}
use Rattle.der_print.specs.declared.line_octets.LineOctets.{LineOctets}
use Rattle.der_elements.specs.Visits.{Visited}
use Rattle.oid_names.specs.OwnNames.{Named}

-- a line of which so much is left grew by a text, and so much is left behind it
pub record AddsPart (limit : Limit) (text old new : List ℕ) (rest : Limit) : Type 0 where
  pub octets : new ≡ old ++ cut limit text
  pub left : rest ≡ behind limit (cut limit text)

-- a line grew by what follows the type, which is on one line
abbrev pub AddsEnding : Option (List Named) → Limit → Visited → List ℕ → List ℕ → List ℕ → Type 0
AddsEnding own limit v w old new =
    (value : List ℕ) × IsShown value × IsEnding own limit v w value × (new ≡ old ++ cut limit value)

-- the same, with all of it
pub record GrowsByEnding (own : Option (List Named)) (limit : Limit) (v : Visited) (w : List ℕ) (old new : LineOctets)
    : Type 0 where
  pub text : List ℕ
  pub ending : IsEnding own limit v w text
  pub grows : octets_in new ≡ octets_in old ++ text
