-- What a reader of fields returns to C.
use Rattle.std.specs.Prelude.{◌≡◌, ℕ, is_some, Result, Ok, Err}
use Rattle.std.specs.Option.{unwrap_or}
use Rattle.der_base.specs.declared.error.Err.{Err as Refused}
use Rattle.der_base.specs.declared.error.Err.TheVariants as reason
use Rattle.der_base.specs.declared.error.Error.{Error as BerError}
use Rattle.der_base.specs.declared.error.Error.TheVariants as error
use Rattle.der_base.specs.declared.error.Needed.{Needed}
use Rattle.der_base.specs.declared.error.Needed.TheVariants.{Unknown, Size}
use Rattle.der_base.specs.Refusal.{refusal}
use Rattle.der_cursor.specs.declared.error.ReadError.{ReadError}
use Rattle.x509.specs.declared.rules.Rule.{Rule}
use Rattle.c_values.specs.declared.fault.DmFault.{DmFault}
use Rattle.c_values.specs.Elements.{bit}
use Rattle.c_values.specs.ErrorNumbers.{refusal_number, rule_number}

-- all is read
abbrev pub no_fault : DmFault
no_fault =
    record { offset = 0; list_end = 0; needed = 0; status = 0; error = 0; field = 0; is_in_list = 0 }

-- how many octets are needed, 0 if that isn't known
abbrev pub needed_size : Needed → ℕ
needed_size (Size n) = n
needed_size Unknown = 0

-- of an element that runs past the end of its list
abbrev pub needed_of : BerError → ℕ
needed_of (error.Incomplete n) = needed_size n
needed_of _ = 0

-- the status, the number of the error, and how many octets are needed; no reader returns another reason
abbrev pub reason_numbers : Refused BerError → ℕ × ℕ × ℕ
reason_numbers (reason.Error e) = (1, refusal_number (refusal e), needed_of e)
reason_numbers (reason.Incomplete n) = (2, 0, needed_size n)
reason_numbers (reason.Failure e) = (1, 0, 0)
reason_numbers reason.OutOfMemory = (1, 0, 0)

-- what is wrong with the field of this number, and where
abbrev pub field_fault : ℕ → ReadError BerError → DmFault
field_fault field e = record {
  offset = e.offset;
  list_end = unwrap_or e.list_end 0;
  needed = (reason_numbers e.reason).2;
  status = (reason_numbers e.reason).0;
  error = (reason_numbers e.reason).1;
  field = field;
  is_in_list = bit (is_some e.list_end);
}

-- of a reader of one value
abbrev pub value_fault : ReadError BerError → DmFault
value_fault e = field_fault 0 e

-- a certificate breaks a rule
abbrev pub rule_fault : Rule → DmFault
rule_fault r = record {
  offset = 0;
  list_end = 0;
  needed = 0;
  status = 1;
  error = rule_number r;
  field = 1;
  is_in_list = 0;
}

-- What was read is written, or it stays as it was; and what is wrong.
abbrev pub Written : {T E V : Type 0} → (T → V → Type 0) → (E → DmFault) → Result T E → V → V → DmFault → Type 0
Written Is fault (Ok x) old new f = Is x new × (f ≡ no_fault)
Written Is fault (Err e) old new f = (new ≡ old) × (f ≡ fault e)

-- a call in C returns such a result
abbrev pub Reads : {T E V : Type 0} → (Result T E → Type 0) → (T → V → Type 0) → (E → DmFault) → V → V → DmFault
    → Type 0
Reads {T} {E} Answers Is fault old new f = (found : Result T E) × Answers found × Written Is fault found old new f
