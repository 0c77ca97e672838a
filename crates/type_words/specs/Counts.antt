-- How many elements are in content octets.
use Rattle.std.specs.Prelude.{◌≡◌, ℕ, true, false, Option, List}
use Rattle.der_base.specs.declared.rules.Rules.TheVariants.{Ber}
use Rattle.der_elements.specs.declared.error.ElementError.{ElementError}
use Rattle.der_elements.specs.Visits.{Extras, Visited}
use Rattle.der_elements.specs.Walked.{index_in}
use Rattle.type_words.specs.Puts.{EndsWith}

-- a walk that doesn't enter strings, and visits values that break their type
abbrev pub values_kept : Extras
values_kept = record { enters_strings = false; keeps_values = true }

-- how many elements of BER octets begin with: before the first fault, such as end-of-contents octets (8.1.5), or all
abbrev pub IsCount : List ℕ → ℕ → Type 0
IsCount w n = (vs : List Visited) × (end : Option ElementError) × EndsWith values_kept Ber w vs end × (n ≡ index_in 0 vs)
