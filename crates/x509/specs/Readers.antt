-- What a reader promises: it returns exactly what a format says of the octets.
use Rattle.std.specs.Prelude.{◌≡◌, ℕ, ◌<◌, None, List, [], length, Result, Ok, Err, MatchResult}
use Rattle.der_base.specs.declared.error.Err.{Err as Refused}
use Rattle.der_base.specs.declared.error.Err.TheVariants.{Incomplete, Error}
use Rattle.der_base.specs.declared.error.Error.{Error as BerError}
use Rattle.der_base.specs.declared.error.Needed.TheVariants.{Size}
use Rattle.der_base.specs.declared.rules.Rules.TheVariants.{Der}
use Rattle.der_base.specs.Refusal.{refusal}
use Rattle.der_cursor.specs.declared.cursor.Cursor.{Cursor}
use Rattle.der_cursor.specs.declared.error.ReadError.{ReadError}
use Rattle.der_cursor.specs.Cursors.{octets_left, end_of, is_inside, rules_of, advanced}
use Rattle.x509.specs.declared.error.CertificateError.{CertificateError}
use Rattle.x509.specs.declared.error.Field.{Field}
use Rattle.x509.specs.Formats.{Fault, FieldFault, Format, Reason, Spot, refuses, spells, start, wrong, lacking}
use Rattle.x509.specs.Formats.{unnamed}

-- what a refusal says
abbrev pub reason_named : Refused BerError → Reason
reason_named (Error e) = wrong (refusal e)
reason_named (Incomplete (Size n)) = lacking n
reason_named _ = unnamed

abbrev pub fault_of : ReadError BerError → Fault
fault_of e = record { offset = e.offset; list_end = e.list_end; reason = reason_named e.reason }

-- with its field
abbrev pub field_fault : CertificateError → FieldFault
field_fault e = (e.field, fault_of e.refusal)

-- where a cursor is
abbrev pub spot_of : Cursor → Spot
spot_of c = record { octets = octets_left c; end = end_of c; inside = is_inside c }

-- the cursor reads by DER, and said no implicit tag
abbrev pub IsPlain : Cursor → Type 0
IsPlain c = (rules_of c ≡ Der) × (c.implicit ≡ None)

-- The value that was read is spelled, and the cursor goes on after it. A refusal is the first fault.
module _ {X E T V : Type 0} (fault : X → E) (view : T → V) (f : Format E V) (old : Cursor) where
  abbrev pub Reads : Result T X → Cursor → Type 0
  Reads (Ok x) new = spells f (octets_left old) (view x) (octets_left new) × (new ≡ advanced old new.left)
  Reads (Err e) new = refuses f (spot_of old) (fault e)

  pub record ReadsBy (result : Result T X) (new : Cursor) : Type 0 where
    pub reads : IsPlain old → Reads result new

-- the same of a call that reads to the end of a list
module _ {X E T V : Type 0} (fault : X → E) (view : T → V) (f : Format E V) (old : Cursor) where
  abbrev pub ReadsWhole : Result T X → Type 0
  ReadsWhole result = MatchResult result (λ x. (rest : List ℕ) × spells f (octets_left old) (view x) rest)
      (λ e. refuses f (spot_of old) (fault e))

  pub record ReadsToEnd (result : Result T X) : Type 0 where
    pub reads_whole : IsPlain old → ReadsWhole result

-- the value is the same, or its refusal is one of this field, as `at` makes it
abbrev pub NamesBy : {N X T : Type 0} → (N → ReadError BerError → X) → N → Result T (ReadError BerError) → Result T X
    → Type 0
NamesBy at n (Ok x) result = result ≡ Ok x
NamesBy at n (Err e) result = result ≡ Err (at n e)

-- the same of a field of a certificate
abbrev pub certificate_refusal : Field → ReadError BerError → CertificateError
certificate_refusal n e = record { field = n; refusal = e }

abbrev pub NamesField : {T : Type 0} → Field → Result T (ReadError BerError) → Result T CertificateError → Type 0
NamesField n found result = NamesBy certificate_refusal n found result

-- A reader of an input returns a value exactly where the octets are one of the format, with its fields; else the first
-- fault, and that is the only one.
module _ {X E T V : Type 0} (fault : X → E) (view : T → V) (f : Format E V) (i : List ℕ) where
  pub record ReadsExactly (result : Result T X) : Type 0 where
    -- what is returned is so
    pub found : MatchResult result (λ x. spells f i (view x) []) (λ e. refuses f (start i) (fault e))
    -- what is so is returned
    pub only : (v : V) → spells f i v [] → MatchResult result (λ x. view x ≡ v) (λ e. ⊥)
    -- and so is what is wrong
    pub refuses : (e : E) → refuses f (start i) e → MatchResult result (λ x. ⊥) (λ x. fault x ≡ e)

-- fewer octets are left
abbrev pub IsShorter : Cursor → Cursor → Type 0
IsShorter old new = length (octets_left new) < length (octets_left old)
