-- How far a namer has come, and what it gives next.
use Rattle.std.specs.Prelude.{◌≡◌, ℕ, true, Option, List, [], ◌∷◌, ◌++◌}
use Rattle.der_elements.specs.Visits.{Visited}
use Rattle.der_schema.specs.declared.matching.Name.{Name}
use Rattle.der_schema.specs.declared.namer.Namer.{Namer}
use Rattle.der_schema.specs.Ends.{whole_by}
use Rattle.der_schema.specs.Levels.{states_in}
use Rattle.der_schema.specs.Encodings.{all_seen, seen_in}
use Rattle.der_schema.specs.Meaning.{Root, all_types}
use Rattle.der_schema.specs.Opened.{name_after, of_input, opened_by}
use Rattle.der_schema.specs.Steps.{label_of}

-- a namer has named these elements of the input i by a schema
pub record HasNamed (sc : Root) (i : List ℕ) (vs : List Visited) (n : Namer) : Type 0 where
  pub input : n.known.input.now ≡ i
  pub types : all_types n.known.types.now ≡ sc.types
  pub opened : states_in sc.types n.levels ≡ opened_by (of_input sc ∷ []) (all_seen i vs)
  pub whole : n.levels.whole ≡ whole_by true (of_input sc ∷ []) (all_seen i vs)

-- after vs the namer has named v too, and this is the name by the schema
pub record NamesNext (sc : Root) (i : List ℕ) (vs : List Visited) (v : Visited) (n : Namer) (said : Option Name)
    : Type 0 where
  pub named : HasNamed sc i (vs ++ v ∷ []) n
  pub name : label_of said ≡ name_after sc (all_seen i vs) (seen_in i v)
