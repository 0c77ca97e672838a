-- Where an error is in a text.
use Rattle.std.specs.Prelude.{◌≡◌, ℕ, ◌+◌, ◌≤◌, ◌==◌, not, List, length, take, count_by}
use Rattle.std.specs.List.{suffix_len}
use Rattle.asn1_modules.specs.declared.fault.ModuleError.{ModuleError}

-- the line and the column are those of the offset, which isn't behind the text
abbrev pub IsIn : List ℕ → ModuleError → Type 0
IsIn text e = record {
  within : e.offset ≤ length text;
  line : e.line ≡ 1 + count_by (λ c. c == 10) (take e.offset text);
  column : e.column ≡ 1 + suffix_len (λ c. not (c == 10)) (take e.offset text);
}
