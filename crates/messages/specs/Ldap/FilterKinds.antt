-- The kinds of filters and of pieces of values, and their tags (RFC 4511 4.5.1.7).
use Rattle.std.specs.Prelude.{◌≡◌, ◌≢◌, ℕ, Option, MatchOption}
use Rattle.messages.specs.declared.ldap.filter.Connective.{Connective}
use Rattle.messages.specs.declared.ldap.filter.Connective.TheVariants.{And, Or, Not}
use Rattle.messages.specs.declared.ldap.filter.FilterKind.{FilterKind}
use Rattle.messages.specs.declared.ldap.filter.FilterKind.TheVariants.{Connective as Connected, Item}
use Rattle.messages.specs.declared.ldap.filter.ItemKind.{ItemKind}
use Rattle.messages.specs.declared.ldap.filter.ItemKind.TheVariants.{Comparison, Substrings, Present, Extensible}
use Rattle.messages.specs.declared.ldap.filter.Place.{Place}
use Rattle.messages.specs.declared.ldap.filter.Place.TheVariants.{Initial, Any, Final}
use Rattle.messages.specs.declared.ldap.filter.Relation.{Relation}
use Rattle.messages.specs.declared.ldap.filter.Relation.TheVariants.{Equal, GreaterOrEqual, LessOrEqual, Approximate}

abbrev pub connective_number : Connective → ℕ
connective_number And = 0
connective_number Or = 1
connective_number Not = 2

abbrev pub relation_number : Relation → ℕ
relation_number Equal = 3
relation_number GreaterOrEqual = 5
relation_number LessOrEqual = 6
relation_number Approximate = 8

abbrev pub item_number : ItemKind → ℕ
item_number (Comparison r) = relation_number r
item_number Substrings = 4
item_number Present = 7
item_number Extensible = 9

-- the tag number of each
abbrev pub filter_number : FilterKind → ℕ
filter_number (Connected c) = connective_number c
filter_number (Item k) = item_number k

abbrev pub place_number : Place → ℕ
place_number Initial = 0
place_number Any = 1
place_number Final = 2

-- the kind of this tag number, if there is one
abbrev pub IsFilterAt : ℕ → Option FilterKind → Type 0
IsFilterAt n result = MatchOption result ((k : FilterKind) → filter_number k ≢ n) (λ k. filter_number k ≡ n)

abbrev pub IsPlaceAt : ℕ → Option Place → Type 0
IsPlaceAt n result = MatchOption result ((p : Place) → place_number p ≢ n) (λ p. place_number p ≡ n)
