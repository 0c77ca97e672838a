-- The octets of the items of a text (X.690 8.1).
use Rattle.std.specs.Prelude.{ℕ, ◌+◌, ◌-◌, ◌&&◌, nat_le, nat_lt, if◌then◌else◌, List, [], ◌∷◌, ◌++◌, length, replicate}
use Rattle.std.specs.Prelude.{◌≡◌, ◌⊎◌, MatchResult, Option, Some, None, Result, Ok, Err, reverse}
use Rattle.std.specs.declared.vec.Vec.{Vec}
use Rattle.std.specs.declared.alloc.Global.{Global}
use Rattle.der_base.specs.Octets.{octets, shortest_length}
use Rattle.der_text.specs.declared.error.Fault.{Fault}
use Rattle.der_text.specs.declared.error.Problem.{Problem}
use Rattle.der_text.specs.declared.encoder.Encoder.{Encoder}
use Rattle.der_text.specs.declared.error.Problem.TheVariants.{Length, NotClosed, NotOpened, OutOfMemory}
use Rattle.der_text.specs.declared.item.End.{End}
use Rattle.der_text.specs.declared.item.Form.{Form}
use Rattle.der_text.specs.declared.item.Form.TheVariants.{Shortest, Long, Indefinite}
use Rattle.der_text.specs.declared.item.Item.{Item}
use Rattle.der_text.specs.declared.item.Item.TheVariants.{Octet, Open, Close}

-- the second step, if the first has a result
infixl 10 ◌>>=◌
abbrev pub ◌>>=◌ : {A B E : Type 0} → Result A E → (A → Result B E) → Result B E
Ok x >>= f = f x
Err e >>= f = Err e

-- the octets of a number in the long form: how many follow, zeros, and the fewest (8.1.3.5)
abbrev pub long_length : ℕ → List ℕ → Option (List ℕ)
long_length count w =
    if nat_lt 0 count && nat_lt count 127 && nat_le (length w) count
    then Some ((128 + count) ∷ (replicate (count - length w) 0 ++ w)) else None

-- the length octets of a content of so many octets, if the form has some (8.1.3)
abbrev pub length_octets : Form → ℕ → Option (List ℕ)
length_octets Shortest n = Some (shortest_length n)
length_octets (Long count) n = long_length count (octets n)
length_octets Indefinite n = Some (128 ∷ [])

-- octets, and the end of each content that they begin in, the innermost first
pub record Following : Type 0 where
  pub octets : List ℕ
  pub ends : List End

abbrev pub following : List ℕ → List End → Following
following w es = record { octets = w; ends = es }

abbrev pub fault : Problem → ℕ → Fault
fault p n = record { problem = p; left = n }

abbrev pub after_length : ℕ → List ℕ → List End → Option (List ℕ) → Result Following Fault
after_length left w es None = Err (fault Length left)
after_length left w es (Some length) = Ok (following (length ++ w) es)

-- the content is what precedes its end
abbrev pub opened : Form → ℕ → List ℕ → List End → Result Following Fault
opened f left w [] = Err (fault NotClosed left)
opened f left w (e ∷ es) = after_length left w es (length_octets f (length w - e.after))

-- an item before what follows it
abbrev pub before : Item → Following → Result Following Fault
before (Octet o) s = Ok (following (o ∷ s.octets) s.ends)
before (Open f left) s = opened f left s.octets s.ends
before (Close left) s = Ok (following s.octets (record { after = length s.octets; left = left } ∷ s.ends))

abbrev pub all_before : List Item → Following → Result Following Fault
all_before [] s = Ok s
all_before (i ∷ is) s = all_before is s >>= before i

-- no content is open
abbrev pub closed : List ℕ → List End → Result (List ℕ) Fault
closed w [] = Ok w
closed w (e ∷ es) = Err (fault NotOpened e.left)

abbrev pub whole : Following → Result (List ℕ) Fault
whole s = closed s.octets s.ends

-- the octets of items
abbrev pub encoded : List Item → Result (List ℕ) Fault
encoded is = all_before is (following [] []) >>= whole

-- a result is this one, or out of memory
abbrev pub Faults : {A : Type 0} → Result A Fault → Fault → Type 0
Faults r e = (e.problem ≡ OutOfMemory) ⊎ (r ≡ Err e)

abbrev pub GivesOrFaults : {X : Type 0} → Result (List X) Fault → Result (Vec X Global) Fault → Type 0
GivesOrFaults r result = MatchResult result (λ v. r ≡ Ok v.items) (λ e. Faults r e)

abbrev pub Leads : Result Following Fault → Following → Result (Unit {0}) Fault → Type 0
Leads r new result = MatchResult result (λ _. r ≡ Ok new) (λ e. Faults r e)

-- what an encoder has put, which it keeps from the last octet and the last end to the first
abbrev pub state_of : Encoder → Following
state_of x = following (reverse x.reversed.items) (reverse x.ends.items)
