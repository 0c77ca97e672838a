-- Worked rows of names.
use Rattle.std.proofs.Common.{ℕ, true, false, List, [], ◌∷◌, refl, lit<, lit≤, inl, inr, arith, IsTrue, All}
use Rattle.std.proofs.lemmas.List.Elements.{All-from_recursion}
use Rattle.der_parser.specs.declared.ber.Class.TheVariants.{Universal}
use Rattle.der_parser.specs.Octets.{identifier, shortest_length}
use Rattle.der_parser.specs.Spelling.{DerSpells}
use Rattle.der_parser.specs.Text.{IsTextOf, is_printable}
use Rattle.der_parser.specs.Tree.{node, string}
use Rattle.der_uses.specs.Names.Names.{Attribute, SpellsIdentifier, SpellsName}

-- 30 00: no sets
no_sets : SpellsName (0x30 ∷ 0 ∷ []) []
unfolding identifier shortest_length
no_sets = ([], (Universal, true, record { octets = refl; number = lit< tt; length = lit< tt }), ([], refl, tt))

-- 06 03 55 04 06
country : SpellsIdentifier (6 ∷ 3 ∷ 0x55 ∷ 4 ∷ 6 ∷ []) (false, 0x55 ∷ 4 ∷ 6 ∷ [])
unfolding identifier shortest_length
country = (refl, Universal, record { octets = refl; number = lit< tt; length = lit< tt }, lit≤ tt)

printable : All (λ b. IsTrue (is_printable b)) (0x46 ∷ 0x52 ∷ [])
printable = All-from_recursion (λ b. IsTrue (is_printable b)) (0x46 ∷ 0x52 ∷ []) (refl, (refl, tt))

in_set : IsTextOf 19 (0x46 ∷ 0x52 ∷ [])
in_set = ((λ e. absurd (omega (arith, e))), (λ e. printable), (λ e. absurd (omega (arith, e))), (λ e. absurd (omega (arith, e))), (λ e. cc))

-- 13 02 "FR"
france : DerSpells (0x13 ∷ 2 ∷ 0x46 ∷ 0x52 ∷ []) (node Universal false 19 (string 19 (0x46 ∷ 0x52 ∷ []))) 1
unfolding identifier shortest_length
france = record { encoded = refl; valid = (lit< tt, inl (refl, refl, ((refl, inr (inr (inr (refl, refl, in_set))), refl), tt))); depth = lit≤ tt; size = lit≤ tt }

attribute : Attribute
attribute = ((false, 0x55 ∷ 4 ∷ 6 ∷ []), node Universal false 19 (string 19 (0x46 ∷ 0x52 ∷ [])))

parts : List ℕ
parts = 6 ∷ 3 ∷ 0x55 ∷ 4 ∷ 6 ∷ 0x13 ∷ 2 ∷ 0x46 ∷ 0x52 ∷ []

-- 30 0d 31 0b 30 09 06 03 55 04 06 13 02 "FR"
one_attribute : SpellsName (0x30 ∷ 0x0d ∷ 0x31 ∷ 0x0b ∷ 0x30 ∷ 9 ∷ parts) ((attribute ∷ []) ∷ [])
unfolding identifier shortest_length attribute parts
one_attribute = (
  0x31 ∷ 0x0b ∷ 0x30 ∷ 9 ∷ parts,
  (Universal, true, record { octets = refl; number = lit< tt; length = lit< tt }),
  (
    (0x31 ∷ 0x0b ∷ 0x30 ∷ 9 ∷ parts) ∷ [],
    refl,
    (
      (
        0x30 ∷ 9 ∷ parts,
        (Universal, true, record { octets = refl; number = lit< tt; length = lit< tt }),
        (
          (0x30 ∷ 9 ∷ parts) ∷ [],
          refl,
          (
            (
              parts,
              (Universal, true, record { octets = refl; number = lit< tt; length = lit< tt }),
              record {
                identifier = 6 ∷ 3 ∷ 0x55 ∷ 4 ∷ 6 ∷ [];
                string = 0x13 ∷ 2 ∷ 0x46 ∷ 0x52 ∷ [];
                octets = refl;
                type = country;
                value = (19, 0x46 ∷ 0x52 ∷ [], refl, refl, france);
              },
            ),
            tt,
          ),
          tt,
        ),
      ),
      tt,
    ),
  ),
)
