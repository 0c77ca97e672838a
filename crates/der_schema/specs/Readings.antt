-- What an element may be by the text of X.680, where a component may be absent. This is a relation, and no first match
-- counts.
use Rattle.std.specs.Prelude.{◌≡◌, true, Option, Some, List, [], ◌∷◌, ◌++◌}
use Rattle.std.specs.Option.{is_some}
use Rattle.std.specs.List.{list_all}
use Rattle.der_schema.specs.declared.schema.Component.{Component}
use Rattle.der_schema.specs.Meaning.{Encoding, Field, Label, Passed, State, free, components, members, each}
use Rattle.der_schema.specs.Meaning.{any_elements, field, found_in, nameless, passed}
use Rattle.der_schema.specs.Opened.{Forest, no_elements, one_more, names}

-- c comes next if the OPTIONAL components before it are absent (X.680 25), and these components follow it
pub data IsNext : List Component → Component → List Component → Type 0 where
  first : {cs : List Component} (c : Component) (rest : List Component) → cs ≡ c ∷ rest → IsNext cs c rest
  behind : {cs : List Component} {c : Component} {rest : List Component} (b : Component) (later : List Component)
      → cs ≡ b ∷ later → b.optional ≡ true → IsNext later c rest → IsNext cs c rest

-- c is one of them
pub data IsAmong : List Component → Component → Type 0 where
  here : {cs : List Component} (c : Component) (rest : List Component) → cs ≡ c ∷ rest → IsAmong cs c
  further : {cs : List Component} {c : Component} (b : Component) (later : List Component) → cs ≡ b ∷ later
      → IsAmong later c → IsAmong cs c

-- what an element may be where s is expected
pub data Reads (s : State) (x : Encoding) (p : Passed) : Type 0 where
  any_element : s.expected ≡ free → p ≡ passed s x (field nameless any_elements) free → Reads s x p
  component : (cs rest : List Component) (c : Component) (f : Field) → s.expected ≡ components cs → IsNext cs c rest
      → found_in c x s.around ≡ Some f → p ≡ passed s x f (components rest) → Reads s x p
  member : (cs : List Component) (c : Component) (f : Field) → s.expected ≡ members cs → IsAmong cs c
      → found_in c x s.around ≡ Some f → p ≡ passed s x f (members cs) → Reads s x p
  item : (c : Component) (f : Field) → s.expected ≡ each c → found_in c x s.around ≡ Some f
      → p ≡ passed s x f (each c) → Reads s x p

-- elements that may be what is expected, each with those inside it, and their names
pub data AreNamed : State → Forest → List (Option Label) → Type 0 where
  no_more : {s : State} → AreNamed s no_elements []
  one_named : {s : State} {ns : List (Option Label)} (x : Encoding) (inside after : Forest) (p : Passed)
      (us vs : List (Option Label)) → Reads s x p → AreNamed p.inside inside us → AreNamed p.after after vs
      → ns ≡ p.name ∷ us ++ vs → AreNamed s (one_more x inside after) ns

-- Law: if each element has a name, the elements may be what is expected, with these names.
abbrev pub NamedIsExpected : Type 0
NamedIsExpected = (s : State) (f : Forest) → list_all is_some (names s f) ≡ true → AreNamed s f (names s f)
