-- What can be said of an error more exactly than by its reason.
use Rattle.std.specs.Prelude.{ℕ, Bool, if◌then◌else◌, Option, Some, None, List, [], ◌++◌, codes, decimal}
use Rattle.der_base.specs.declared.error.Err.{Err as Reason}
use Rattle.der_base.specs.declared.error.Err.TheVariants.{Error}
use Rattle.der_base.specs.declared.error.Error.{Error as BerError}
use Rattle.der_base.specs.declared.error.Error.TheVariants.{BerValueError, UnexpectedClass, UnexpectedTag}
use Rattle.der_cursor.specs.declared.error.ReadError.{ReadError}
use Rattle.der_cursor.specs.Cursors.{is_at_end, refusal_text}
use Rattle.der_elements.specs.declared.name.TypeName.{TypeName}
use Rattle.der_elements.specs.TypeNames.{type_text}
use Rattle.extension_text.specs.Names.Values.{is_universal}
use Rattle.extension_text.specs.declared.why.Why.{Why}
use Rattle.extension_text.specs.declared.why.Why.TheVariants.{AsRead, Default, Empty, LastBit, Unexpected}

-- what is said
abbrev pub why_text : Why → List ℕ
why_text AsRead = []
why_text Default = codes "a default value is written (X.690 11.5)"
why_text Empty = codes "the list is empty"
why_text LastBit = codes "the last bit is 0 (X.690 11.2.2)"
why_text (Unexpected n) = codes "unexpected " ++ type_text n.class n.number

-- a tag that isn't due; the reader tells which universal type it is of
abbrev pub unexpected : Option TypeName → Why
unexpected (Some n) = if is_universal n.class then AsRead else Unexpected n
unexpected None = AsRead

-- a wrong value at the end of a list is that it is empty
abbrev pub why_of_reason : Reason BerError → Bool → Option TypeName → Why → Why
why_of_reason (Error BerValueError) at_end name wrong = if at_end then Empty else wrong
why_of_reason (Error (UnexpectedTag due found)) at_end name wrong = unexpected name
why_of_reason (Error (UnexpectedClass due found)) at_end name wrong = unexpected name
why_of_reason _ at_end name wrong = AsRead

-- what can be said of an error, where the refused element has this type or tag, and this can be said of a wrong value
abbrev pub why_of : ReadError BerError → Option TypeName → Why → Why
why_of e name wrong = why_of_reason e.reason (is_at_end e.list_end e.offset) name wrong

-- the reader's text of an error, where it is promised: der_base promises none of a `BerError`
abbrev pub text_read : ReadError BerError → Option (List ℕ)
text_read e = refusal_text (λ x. None) (λ x. Some x) e

-- the offset, and what can be said of the error, or else the reader's text
abbrev pub error_text : ReadError BerError → Why → Option (List ℕ)
error_text e AsRead = text_read e
error_text e why = Some (codes "at " ++ decimal e.offset ++ codes ": " ++ why_text why)
