-- The names of refusals. A name has no place in memory, so two of them can be compared.
use Rattle.std.specs.Prelude.{ℕ, List, Option, Some, None}
use Rattle.der_base.specs.declared.header.Class.{Class}
use Rattle.der_base.specs.declared.header.Tag.{Tag}
use Rattle.der_base.specs.declared.error.Error.{Error as BerError}
use Rattle.der_base.specs.declared.error.Error.TheVariants as errors
use Rattle.der_base.specs.declared.error.DerConstraint.{DerConstraint}
use Rattle.der_base.specs.declared.error.ErrorKind.{ErrorKind}
use Rattle.der_base.specs.declared.error.Needed.{Needed}

pub data Refusal : Type 0 where
  wrong_type : Refusal
  wrong_value : Refusal
  max_depth : Refusal
  invalid_length : Refusal
  invalid_tag : Refusal
  unknown_tag : ℕ → Refusal
  unexpected_tag : (expected : Option ℕ) (actual : ℕ) → Refusal
  unexpected_class : (expected : Option Class) (actual : Class) → Refusal
  construct_expected : Refusal
  construct_unexpected : Refusal
  integer_too_large : Refusal
  integer_negative : Refusal
  -- the tag number, and the text
  invalid_value : ℕ → List ℕ → Refusal
  invalid_charset : Refusal
  invalid_date_time : Refusal
  unsupported : Refusal
  der_constraint : DerConstraint → Refusal
  incomplete : Needed → Refusal
  parser_fault : ErrorKind → Refusal

abbrev pub tag_number : Option Tag → Option ℕ
tag_number None = None
tag_number (Some t) = Some t.0

-- the name of an error
abbrev pub refusal : BerError → Refusal
refusal errors.BerTypeError = wrong_type
refusal errors.BerValueError = wrong_value
refusal errors.BerMaxDepth = max_depth
refusal errors.InvalidLength = invalid_length
refusal errors.InvalidTag = invalid_tag
refusal (errors.UnknownTag n) = unknown_tag n
refusal (errors.UnexpectedTag e a) = unexpected_tag (tag_number e) a.0
refusal (errors.UnexpectedClass e a) = unexpected_class e a
refusal errors.ConstructExpected = construct_expected
refusal errors.ConstructUnexpected = construct_unexpected
refusal errors.IntegerTooLarge = integer_too_large
refusal errors.IntegerNegative = integer_negative
refusal (errors.InvalidValue t m) = invalid_value t.0 m.now
refusal errors.StringInvalidCharset = invalid_charset
refusal errors.InvalidDateTime = invalid_date_time
refusal errors.Unsupported = unsupported
refusal (errors.DerConstraintFailed c) = der_constraint c
refusal (errors.Incomplete n) = incomplete n
refusal (errors.NomError k) = parser_fault k
