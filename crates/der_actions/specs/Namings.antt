-- The type that names the elements of an input, and whether the input has it.
use Rattle.std.specs.Prelude.{◌≡◌, ℕ, Bool, true, false, Option, Some, None, List, [], ◌∷◌}
use Rattle.der_base.specs.declared.rules.Rules.{Rules}
use Rattle.der_actions.specs.declared.options.Action.{Action}
use Rattle.der_actions.specs.declared.options.Action.TheVariants.{Tree, Check, Json, Canon, Get, Show}
use Rattle.der_actions.specs.declared.options.Naming.{Naming}
use Rattle.der_actions.specs.declared.options.Naming.TheVariants.{Unnamed, ByFirst, By}
use Rattle.text_json.specs.declared.fields.secrets.Exposure.{Exposure}
use Rattle.text_json.specs.declared.fields.secrets.Exposure.TheVariants.{Full}
use Rattle.text_json.specs.Fields.Fields.{label_after, label_text}
use Rattle.text_json.specs.Fields.Secrets.{IsExposure}
use Rattle.der_known.specs.declared.known.KnownTypes.{KnownTypes}
use Rattle.der_schema.specs.declared.known.KnownType.{KnownType}
use Rattle.der_schema.specs.declared.schema.Component.{Component}
use Rattle.der_schema.specs.declared.schema.Schema.{Schema}
use Rattle.der_schema.specs.Known.{IsFirstSchema, IsKnownType, IsOfType, SameLetters}
use Rattle.der_schema.specs.Meaning.{all_types, root_of}
use Rattle.der_elements.specs.Visits.{Visited}

-- the types to which the known types refer by index
abbrev pub types_in : KnownTypes → List Component
types_in types = all_types types.types

-- the schema of the first known type for which P holds; None if P holds for no type
abbrev pub IsFirstIn : (KnownType → Type 0) → KnownTypes → Option Schema → Type 0
IsFirstIn P types s = IsFirstSchema P types.known.now (types_in types) s

-- the type that names the elements of an input
abbrev pub IsNamedBy : Naming → Rules → List ℕ → Option Schema → Type 0
IsNamedBy Unnamed r i s = s ≡ None
IsNamedBy (ByFirst types) r i s = IsFirstIn (IsKnownType (types_in types.now) r i) types.now s
IsNamedBy (By schema) r i s = s ≡ Some schema

-- an input has the type that it has to have, if there is one
abbrev pub IsAsAsked : Naming → Rules → List ℕ → Type 0
IsAsAsked Unnamed r i = Unit {0}
IsAsAsked (ByFirst types) r i = Unit {0}
IsAsAsked (By schema) r i = IsOfType (root_of schema) r i

-- the name of the element v, which is visited after others in i; empty if no type has one
abbrev pub field_in : Option Schema → List ℕ → List Visited → Visited → List ℕ
field_in None i before v = []
field_in (Some schema) i before v = label_text (label_after (root_of schema) i before v)

-- how much of an element may be printed: what the type lets, or all if there is no type
abbrev pub IsExposedBy : Option Schema → List ℕ → List Visited → Visited → Exposure → Type 0
IsExposedBy None i before v x = x ≡ Full
IsExposedBy (Some schema) i before v x = IsExposure (root_of schema) i before v x

-- the name of a field as a JSON member; None if it is empty
abbrev pub field_member : List ℕ → Option (List ℕ)
field_member [] = None
field_member (b ∷ bs) = Some (b ∷ bs)

-- whether an action names elements, by the first known type of an input if the user doesn't give one
abbrev pub names_elements : Action → Bool
names_elements Tree = true
names_elements Check = false
names_elements Json = true
names_elements Canon = false
names_elements Get = true
names_elements Show = false

-- the naming with the known type of a name
abbrev pub by_type : Option Schema → Option Naming
by_type None = None
by_type (Some schema) = Some (By schema)

-- the naming with the first known type of this name, in any case of its letters; None if there is none
abbrev pub IsByName : KnownTypes → List ℕ → Option Naming → Type 0
IsByName types name n =
    (s : Option Schema) × IsFirstIn (λ k. SameLetters k.name.now name) types s × (n ≡ by_type s)
