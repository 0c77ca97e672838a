-- What the calls on errors return.
use Rattle.std.specs.Prelude.{◌≡◌, ◌++◌, List, [], ℕ, Option, Some, codes, decimal}
use Rattle.der_base.specs.declared.error.Err.{Err}
use Rattle.der_base.specs.declared.error.Error.{Error as BerError}
use Rattle.der_base.specs.declared.error.Error.TheVariants.{Incomplete as CutShort}
use Rattle.der_base.specs.declared.error.Err.TheVariants.{Incomplete, Error, Failure, OutOfMemory}
use Rattle.der_base.specs.declared.error.Needed.{Needed}
use Rattle.der_base.specs.declared.error.Needed.TheVariants.{Unknown, Size}

-- the new result is the old one with an error that R allows for its own
abbrev pub MapsError : {E X : Type 0} → (E → X → Type 0) → Err E → Err X → Type 0
MapsError R (Incomplete n) new = new ≡ Incomplete n
MapsError {E} {X} R (Error e) new = (x : X) × R e x × (new ≡ Error x)
MapsError {E} {X} R (Failure e) new = (x : X) × R e x × (new ≡ Failure x)
MapsError R OutOfMemory new = new ≡ OutOfMemory

-- the result for an item that its list cuts short: more octets after the list do not help
abbrev pub RefusesCutItem : Err BerError → Err BerError → Type 0
RefusesCutItem (Incomplete n) new = new ≡ Error (CutShort n)
RefusesCutItem (Error e) new = new ≡ Error e
RefusesCutItem (Failure e) new = new ≡ Failure e
RefusesCutItem OutOfMemory new = new ≡ OutOfMemory

-- how many octets are lacking, where that is known
abbrev pub needs_text : Needed → List ℕ
needs_text Unknown = []
needs_text (Size n) = codes ", needs " ++ decimal n

-- the text of what a parser returns in place of a value, if its errors have one
abbrev pub err_text : {E : Type 0} → (E → Option (List ℕ)) → Err E → Option (List ℕ)
err_text shown (Incomplete n) = Some (codes "incomplete" ++ needs_text n)
err_text shown (Error e) = shown e
err_text shown (Failure e) = shown e
err_text shown OutOfMemory = Some (codes "out of memory")
