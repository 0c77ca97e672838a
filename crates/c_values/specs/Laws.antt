-- Statements of the laws in `src/laws.rt`.
use Rattle.std.specs.Prelude.{◌≡◌, ℕ, ◌^◌, ◌<◌, ◌≤◌, IsTrue, List, length, take, All, Result}
use Rattle.der_base.specs.declared.rules.Rules.{Rules}
use Rattle.der_base.specs.Leaf.{IsDerLeaf}
use Rattle.der_base.specs.Tree.{time}
use Rattle.der_writer.specs.declared.writer.WriteError.{WriteError}
use Rattle.der_writer.specs.declared.writer.Writer.{Writer}
use Rattle.der_writer.specs.Written.{Puts, Returns, StartsAt, Wrote}
use Rattle.c_values.specs.declared.element.DmElement.{DmElement}
use Rattle.c_values.specs.declared.outcome.DmOutcome.{DmOutcome}
use Rattle.c_values.specs.declared.time.DmTime.{DmTime}
use Rattle.c_values.specs.Outcomes.{FindsBer, FindsDer, Lists}
use Rattle.c_values.specs.Tested.{has_time, time_of}

-- the element is within an input of n octets
abbrev pub IsWithin : ℕ → DmElement → Type 0
IsWithin n e = (e.header ≤ e.content) × (e.content ≤ e.end) × (e.end ≤ n)

-- each element that a call lists is
abbrev pub ElementsLieWithin : Type 0
ElementsLieWithin = (r : Rules) (d : ℕ) (i : List ℕ) (old new : List DmElement) (o : DmOutcome)
    → Lists r d i old new o → o.status ≡ 0 → All (IsWithin (length i)) (take o.elements new)

-- so is the first one
abbrev pub FirstLiesWithin : (List ℕ → DmElement → DmElement → DmOutcome → Type 0) → Type 0
FirstLiesWithin Finds = (i : List ℕ) (old new : DmElement) (o : DmOutcome) → Finds i old new o → o.status ≡ 0
    → IsWithin (length i) new

abbrev pub DerFirstLiesWithin : Type 0
DerFirstLiesWithin = FirstLiesWithin FindsDer

abbrev pub BerFirstLiesWithin : Type 0
BerFirstLiesWithin = FirstLiesWithin FindsBer

-- Of all that was put since the start, dm_finish tells whether the buffer begins with it; what follows is as it was.
abbrev pub FinishedIsWritten : Type 0
FinishedIsWritten = (w : List ℕ) (old new : Writer) (found : Result ℕ WriteError)
    → StartsAt old.out old → Puts w old new → length new.out.now < 2 ^ 63
    → Returns new found → Wrote w old.out.now new.out.now found

-- a time that is put is one that DER has
abbrev pub TimesAreDer : Type 0
TimesAreDer = (k : ℕ) (t : DmTime) → IsTrue (has_time k t) → IsDerLeaf k (time k (time_of k t))
