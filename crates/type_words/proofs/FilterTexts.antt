-- The first piece of a value.
use Rattle.std.proofs.Common.{◌≡◌, ◌<◌, ◌≤◌, List, [], ◌∷◌, codes, get_or, length, refl, arith}
use Rattle.messages.specs.declared.ldap.filter.Piece.{Piece}
use Rattle.type_words.specs.Filters.{star_before, star_unless_initial}

pub first_star : (w : List Piece) (x : Piece) → 1 ≤ length w → star_unless_initial (get_or w 0 x).place ≡ star_before w
first_star [] x some = absurd (omega (arith, some))
first_star (y ∷ w) x some = refl

pub no_first : (w : List Piece) → length w < 1 → codes "*" ≡ star_before w
no_first [] none = refl
no_first (x ∷ w) none = absurd (omega (arith, none))
