-- Types with an identifier, and those that it selects (X.681 14.1, X.682 10).
use Rattle.std.specs.Prelude.{ℕ, Option, Some, None}
use Rattle.asn1_types.specs.declared.item.Item.{Item}
use Rattle.asn1_types.specs.declared.item.Selections.{Selections}
use Rattle.asn1_types.specs.declared.item.Shape.TheVariants.{Open}
use Rattle.der_base.specs.declared.header.Class.{Class}
use Rattle.der_schema.specs.declared.schema.Form.{Form}
use Rattle.der_schema.specs.declared.schema.Inside.{Inside, out-Inside}
use Rattle.der_schema.specs.declared.schema.Inside.TheOpen.{Free, Nothing, Components, Members, Each}
use Rattle.der_schema.specs.declared.schema.Inside.TheOpen.{Holds, Chosen, Selects, Begins}
use Rattle.der_schema.specs.declared.schema.Inside.TheOpen.{Any, Tagged, Choice, Selected, Numbered}
use Rattle.der_schema.specs.declared.schema.Inside.TheVariants.{Selects as AnIdentifier, Begins as WithIdentifier}
use Rattle.der_schema.specs.declared.schema.Type.{«Type», out-Type}
use Rattle.der_schema.specs.declared.schema.Type.TheVariants.{Numbered as Refers, Selected as IsSelected, Tagged as WithTag}

-- a reference to the type of an item, or what the last identifier selects
abbrev pub reference_to : Option Item → ℕ → «Type»
reference_to None i = Refers i
reference_to (Some it) i = elim it.shape [ Open ↦ IsSelected | _ ↦ Refers i ]

-- a type with this inside is an identifier that selects, or its first component is; else as it is
abbrev pub selecting_by : Class → ℕ → Form → Inside → Selections → «Type» → «Type»
selecting_by c n f i s k =
    elim (out-Inside i) [
      | Free ↦ WithTag c n f (AnIdentifier s.of)
      | Nothing ↦ k
      | Components w ↦ WithTag c n f (WithIdentifier w s.of)
      | Members w ↦ k
      | Each w ↦ k
      | Holds w ↦ k
      | Chosen ↦ k
      | Selects w ↦ k
      | Begins w z ↦ k
    ]

-- a type whose identifier selects
abbrev pub selecting : «Type» → Option Selections → «Type»
selecting k None = k
selecting k (Some s) =
    elim (out-Type k) [
      | Any ↦ k
      | Tagged c n f i ↦ selecting_by c n f i s k
      | Choice w ↦ k
      | Selected ↦ k
      | Numbered n ↦ k
    ]
