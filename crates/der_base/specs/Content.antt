-- Contents after a header: where a content of definite or indefinite length ends (X.690 8.1.3), what it shows to be
-- wrong, and how many octets it lacks.
use Rattle.std.specs.Prelude.{◌≡◌, ℕ, ◌+◌, ◌-◌, ◌≤◌, List, ◌++◌, length}
use Rattle.der_base.specs.declared.header.Length.{Length}
use Rattle.der_base.specs.declared.header.Length.TheVariants.{Definite, Indefinite}
use Rattle.der_base.specs.Cut.{AreShapes, IsCut, Lacks}
use Rattle.der_base.specs.Fault.{InsideRefuses}
use Rattle.der_base.specs.Refusal.{Refusal}
use Rattle.der_base.specs.Spelling.{IsRawList, end_marker}

-- v begins with the content w of this length, and with its end marker where the length is indefinite, and rest follows;
-- indefinite lengths are nested below the budget
abbrev pub BeginsWithContent : List ℕ → Length → ℕ → List ℕ → List ℕ → Type 0
BeginsWithContent v (Definite n) k w rest = (length w ≡ n) × (v ≡ w ++ rest)
BeginsWithContent v Indefinite k w rest = (2 ≤ k) × IsRawList w (k - 1) × (v ≡ w ++ end_marker ++ rest)

-- a definite content shows no refusal, since nothing looks into it
abbrev pub ContentRefuses : List ℕ → Length → ℕ → Refusal → Type 0
ContentRefuses v (Definite n) k e = ⊥
ContentRefuses v Indefinite k e = InsideRefuses v k e

-- the inside of an indefinite length ends in one of its elements or before its end marker, lacks n octets there, and
-- shows no refusal with this budget
pub record InsideLacks (v : List ℕ) (k n : ℕ) : Type 0 where
  pub whole : List ℕ
  pub cut : List ℕ
  pub octets : v ≡ whole ++ cut
  pub elements : AreShapes whole
  pub ends : IsCut cut
  pub lacks : Lacks cut n
  pub not_refused : (e : Refusal) → ¬ InsideRefuses v k e

abbrev pub ContentLacks : List ℕ → Length → ℕ → ℕ → Type 0
ContentLacks v (Definite m) k n = (1 ≤ n) × (length v + n ≡ m)
ContentLacks v Indefinite k n = InsideLacks v k n
