-- The octets of a text (docs/TEXT.md).
use Rattle.std.specs.Prelude.{ℕ, ◌+◌, ◌-◌, ◌==◌, not, List, length, take, count_by, Result}
use Rattle.std.specs.List.{suffix_len}
use Rattle.std.specs.Result.{result_map_both}
use Rattle.der_text.specs.declared.error.Fault.{Fault}
use Rattle.der_text.specs.declared.error.TextError.{TextError}
use Rattle.der_text.specs.Encoded.{◌>>=◌, encoded}
use Rattle.der_text.specs.Lexemes.{items_of}

-- an error with the line and column where so many octets of the text are left
abbrev pub located : List ℕ → Fault → TextError
located text fault =
    let before = take (length text - fault.left) text in
    record {
      problem = fault.problem;
      line = 1 + count_by (λ c. c == 10) before;
      column = 1 + suffix_len (λ c. not (c == 10)) before;
    }

abbrev pub octets_or_fault : List ℕ → Result (List ℕ) Fault
octets_or_fault text = items_of text >>= encoded

-- the octets that a text has, or the first thing in it that isn't of the grammar
abbrev pub octets_of_text : List ℕ → Result (List ℕ) TextError
octets_of_text text = result_map_both (λ w. w) (located text) (octets_or_fault text)
