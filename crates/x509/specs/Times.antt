-- When a time is, whichever type it is encoded as (RFC 5280 4.1.2.5). By DER it is in UTC.
use Rattle.std.specs.Prelude.{◌≡◌, ℕ, List, [], ◌∷◌}
use Rattle.std.specs.Cmp.Lexicographic.{slice_cmp}
use Rattle.std.specs.declared.cmp.Ordering.TheVariants.{Less}
use Rattle.std.specs.Option.{unwrap_or}
use Rattle.std.specs.Ordering.{nat_cmp}
use Rattle.x509.specs.declared.time.Time.{Time}
use Rattle.x509.specs.declared.time.Validity.{Validity}
use Rattle.x509.specs.Certificates.{moment_of}

-- the numbers of a time, from the greatest unit to the least; one without a fraction is the start of its second
abbrev pub units_of : Time → List ℕ
units_of t = let m = moment_of t in
    m.year ∷ m.month ∷ m.day ∷ m.hour ∷ m.minute ∷ m.second ∷ unwrap_or m.nanosecond 0 ∷ []

-- of the first of them that differ, that of a is less
abbrev pub IsBefore : Time → Time → Type 0
IsBefore a b = slice_cmp nat_cmp (units_of a) (units_of b) ≡ Less

-- from when and until when, both included
abbrev pub IsWithin : Validity → Time → Type 0
IsWithin v t = (¬ IsBefore t v.not_before) × (¬ IsBefore v.not_after t)
