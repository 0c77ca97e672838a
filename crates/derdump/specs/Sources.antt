-- A reader that keeps how it stands, and what is read of it.
use Rattle.std.specs.Prelude.{◌≡◌, ℕ, ◌+◌, ◌<◌, ◌≤◌, List, length, Option}
use Rattle.std.specs.Io.KnownBytes.{Consumes}
use Rattle.derdump.specs.declared.fault.InputFault.{InputFault}
use Rattle.derdump.specs.declared.fault.InputFault.TheVariants.{TooLarge, ReadFailed, OutOfMemory}
use Rattle.derdump.specs.declared.source.Source.{Source}
use Rattle.derdump.specs.declared.source.Standing.{Standing}
use Rattle.derdump.specs.declared.source.Standing.TheVariants.{Open, Failed}

-- what it answered last
abbrev pub standing_of : {R : Type 0} → Source R → Standing
standing_of s = s.standing

-- how many octets it gave
abbrev pub octets_taken : {R : Type 0} → Source R → ℕ
octets_taken s = s.taken

-- the octets that it will give, where the reader underneath tells them
abbrev pub octets_left : {R : Type 0} → (R → Option (List ℕ)) → Source R → Option (List ℕ)
octets_left remaining s = remaining s.inner

-- it was not read yet
abbrev pub IsFresh : {R : Type 0} → Source R → Type 0
IsFresh s = (standing_of s ≡ Open) × (octets_taken s ≡ 0)

-- the most octets that are read, and those of one read more
abbrev pub limit : ℕ
limit = 67108864

abbrev pub one_read : ℕ
one_read = 16384

-- Why there is no input. No cause holds beside another: each says what the last read answered, and how many octets
-- there were by then.
abbrev pub IsInputFault : {R : Type 0} → Source R → InputFault → Type 0
IsInputFault s TooLarge = (standing_of s ≡ Open) × (limit < octets_taken s) × (octets_taken s ≤ limit + one_read)
IsInputFault s ReadFailed = (standing_of s ≡ Failed) × (octets_taken s ≤ limit)
IsInputFault s OutOfMemory = (standing_of s ≡ Open) × (octets_taken s ≤ limit)

-- what was read of it since it was fresh: as many octets as it counts
abbrev pub GaveOctets : Option (List ℕ) → Option (List ℕ) → ℕ → Type 0
GaveOctets old new n = (w : List ℕ) × (length w ≡ n) × Consumes old new w
