-- Tags and statuses of writers of C.
use Rattle.std.specs.Prelude.{ℕ, ◌-◌, ◌==◌, if◌then◌else◌, Bool, not, Option, Some, None}
use Rattle.std.specs.Prelude.{Result, Ok, Err}
use Rattle.der_base.specs.declared.header.Class.{Class}
use Rattle.der_base.specs.declared.header.Class.TheVariants.{Universal, Application, ContextSpecific, Private}
use Rattle.der_base.specs.declared.header.Tag.{Tag}
use Rattle.der_writer.specs.declared.writer.WriteError.{WriteError}
use Rattle.der_writer.specs.declared.writer.WriteError.TheVariants.{NoRoom, NotClosed}

-- the class with this number (X.690 8.1.2.2); any number above 2 is that of the last
abbrev pub class_of : ℕ → Class
class_of n = if n == 0 then Universal else if n == 1 then Application else if n == 2 then ContextSpecific else Private

-- the implicit tag of the next element, if it has one
abbrev pub implicit_of : ℕ → ℕ → Option (Class × Tag)
implicit_of k n = if k == 0 then None else Some (class_of (k - 1), record { 0 = n })

-- whether a number that is 0 or 1 is 1; any other number counts as 1
abbrev pub is_set : ℕ → Bool
is_set n = not (n == 0)

-- how many octets there are or are needed, and the status
abbrev pub finished_length : Result ℕ WriteError → ℕ
finished_length (Ok n) = n
finished_length (Err (NoRoom n)) = n
finished_length (Err NotClosed) = 0

abbrev pub finished_status : Result ℕ WriteError → ℕ
finished_status (Ok n) = 0
finished_status (Err (NoRoom n)) = 3
finished_status (Err NotClosed) = 4
