-- Writing through a writer that counts failed writes.
use Rattle.std.specs.Prelude.{◌≡◌, ℕ, ◌-◌, ◌^◌, ◌<◌, ◌≤◌, ◌↔◌, Bool, true, ◌==◌, ◌&&◌, nat_lt, List, length, take}
use Rattle.std.specs.Prelude.{Option, Result, Ok, Err, OnOk, OnErr, IfErr, if◌then◌else◌}
use Rattle.std.specs.Result.{IsErrOf, IsErrAnd}
use Rattle.std.specs.Io.KnownBytes.{Appends}
use Rattle.der_base.specs.declared.error.GenError.{GenError}
use Rattle.der_base.specs.declared.error.GenError.TheVariants.{Io, TooLarge, OutOfMemory}
use Rattle.der_base.specs.Count.{one_more}
use Rattle.der_object.specs.declared.writer.FaultWriter.{FaultWriter}

-- the inner writer
abbrev pub inner_of : {W : Type 0} → FaultWriter W → W
inner_of w = w.inner

-- how many writes failed
abbrev pub faults_of : {W : Type 0} → FaultWriter W → ℕ
faults_of w = w.faults

-- the octets that the inner writer has taken, by its own `contents`; None if it doesn't tell them
abbrev pub written : {W : Type 0} → (W → Option (List ℕ)) → FaultWriter W → Option (List ℕ)
written contents w = contents w.inner

-- a write failed: an error, or none taken of some octets
abbrev pub is_fault : {E : Type 0} → Result ℕ E → List ℕ → Bool
is_fault (Ok n) w = (n == 0) && nat_lt 0 (length w)
is_fault (Err e) w = true

-- the number of failed writes after a write of these octets with this answer
abbrev pub faults_behind : {E : Type 0} → ℕ → Result ℕ E → List ℕ → ℕ
faults_behind n answer w = if is_fault answer w then one_more n else n

abbrev pub IsIo : GenError → Type 0
IsIo (Io k) = Unit {0}
IsIo TooLarge = ⊥
IsIo OutOfMemory = ⊥

-- a part of the octets from the start was written, but not all
pub record WroteFront (old new : Option (List ℕ)) (w : List ℕ) : Type 0 where
  pub count : ℕ
  pub short : count < length w
  pub front : Appends old new (take count w)

-- Octets were sent: all of them, or a part from the start until a write failed. Then the error is Io.
pub record Wrote {W : Type 0} (contents : W → Option (List ℕ)) (old new : FaultWriter W)
    (result : Result (Unit {0}) GenError) (w : List ℕ) : Type 0 where
  pub all : OnOk result (Appends (written contents old) (written contents new) w)
  pub clean : OnOk result (faults_of new ≡ faults_of old)
  pub front : OnErr result (WroteFront (written contents old) (written contents new) w)
  pub fault : OnErr result (faults_of new ≡ one_more (faults_of old))
  pub io : IfErr result IsIo

-- More than 2^64-1 octets are an error, and nothing is written. Otherwise the octets are sent.
pub record Encodes {W : Type 0} (contents : W → Option (List ℕ)) (old new : FaultWriter W)
    (result : Result (Unit {0}) GenError) (w : List ℕ) : Type 0 where
  pub too_large : IsErrOf result TooLarge ↔ (2 ^ 64 ≤ length w)
  pub untouched : 2 ^ 64 ≤ length w → new ≡ old
  pub wrote : length w < 2 ^ 64 → Wrote contents old new result w

-- unless the count was at its greatest value, Io is the answer iff a write failed
abbrev pub IoWhereFaultsRose : {W : Type 0} → FaultWriter W → FaultWriter W → Result (Unit {0}) GenError → Type 0
IoWhereFaultsRose old new result = faults_of old < 2 ^ 128 - 1
    → (IsErrAnd result IsIo ↔ (faults_of old < faults_of new))
