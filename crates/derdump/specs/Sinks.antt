-- A writer that keeps whether it failed, and whether it is flushed.
use Rattle.std.specs.Prelude.{◌≡◌, ◌≢◌, ℕ, Bool, List, [], Option, Result, Ok, Err}
use Rattle.derdump.specs.declared.sink.Sink.{Sink}

-- a write took none of some octets, or answered an error that is a failure
abbrev pub IsFailedWrite : {E : Type 0} → (E → Type 0) → Result ℕ E → List ℕ → Type 0
IsFailedWrite fails (Ok n) octets = (n ≡ 0) × (octets ≢ [])
IsFailedWrite fails (Err e) octets = fails e

-- a write or a flush of it failed
abbrev pub has_failed : {W : Type 0} → Sink W → Bool
has_failed s = s.failed

-- a flush of it went well, and no write came behind that
abbrev pub is_flushed : {W : Type 0} → Sink W → Bool
is_flushed s = s.flushed

-- the octets that the writer underneath has taken, where it tells them
abbrev pub octets_of : {W : Type 0} → (W → Option (List ℕ)) → Sink W → Option (List ℕ)
octets_of contents s = contents s.inner
