-- Which rules of entries are broken, one mark after another.
use Rattle.std.specs.Prelude.{◌≡◌, ℕ, ◌<◌, ◌⊎◌, ◌↔◌, Bool, false, true, Option, List, length, slice_index_or}
use Rattle.x509_rules.specs.declared.crl.entries.EntryRule.{EntryRule}
use Rattle.x509_rules.specs.declared.crl.entries.EntryRule.TheVariants.{PositiveSerialNumber}
use Rattle.x509_rules.specs.declared.crl.marks.TheConstants.{MARKED_RULES}
use Rattle.x509_rules.specs.Crl.Entries.{SomeEntry}

abbrev pub mark_count : ℕ
mark_count = 19

-- the rule of a mark
abbrev pub marked_rule : ℕ → EntryRule
marked_rule n = slice_index_or MARKED_RULES.now n PositiveSerialNumber

abbrev pub IsMarked : List Bool → ℕ → Type 0
IsMarked marks n = slice_index_or marks n false ≡ true

-- those of which P holds are marked, and the others stay as they are
pub record Marks (P : ℕ → Type 0) (old new : List Bool) : Type 0 where
  pub all : length new ≡ mark_count
  pub each : (n : ℕ) → n < mark_count → IsMarked new n ↔ (IsMarked old n ⊎ P n)

-- those that one of the entries breaks are marked
pub record AreMarks (i : Option (List ℕ)) (marks : List Bool) : Type 0 where
  pub all : length marks ≡ mark_count
  pub each : (n : ℕ) → n < mark_count → IsMarked marks n ↔ SomeEntry (marked_rule n) i
