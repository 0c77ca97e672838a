-- Where an error is in texts.
use Rattle.std.specs.Prelude.{◌≡◌, ℕ, ◌+◌, ◌==◌, not, List, [], Option, Some, None, take, count_by, slice_get}
use Rattle.std.specs.List.{suffix_len}
use Rattle.asn1_names.specs.declared.error.TypesError.{TypesError}

abbrev pub text_at : Option (List ℕ) → List ℕ
text_at None = []
text_at (Some t) = t

-- the line and the column are those of this offset in the text with the error's index, or of its end
abbrev pub IsAt : List (List ℕ) → ℕ → TypesError → Type 0
IsAt texts offset e = record {
  line : e.line ≡ 1 + count_by (λ c. c == 10) (take offset (text_at (slice_get texts e.text)));
  column : e.column ≡ 1 + suffix_len (λ c. not (c == 10)) (take offset (text_at (slice_get texts e.text)));
}
