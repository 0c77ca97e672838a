-- How elements of types are shown, as comments say.
use Rattle.std.specs.Prelude.{◌≡◌, ℕ, Option, Some, None, List, slice_get}
use Rattle.asn1_types.specs.declared.item.Item.{Item}
use Rattle.asn1_types.specs.declared.look.Look.{Look}
use Rattle.asn1_types.specs.declared.tags.Base.{Base}
use Rattle.asn1_types.specs.Tagging.{base_at, next_base}
use Rattle.der_schema.specs.declared.schema.Component.{Component}
use Rattle.der_schema.specs.declared.schema.Secrecy.TheVariants.{Public}
use Rattle.der_schema.specs.Meaning.{secret_or}
use Rattle.std.specs.Option.{option_or}

-- what the comment of an item says
abbrev pub look_at : Option Item → Look
look_at None = record { words = None; secrecy = Public }
look_at (Some it) = record { words = it.words; secrecy = it.secrecy }

-- the first words, and the more secret of the two
abbrev pub look_or : Look → Look → Look
look_or a b = record { words = option_or a.words b.words; secrecy = secret_or a.secrecy b.secrecy }

-- what the comments of the items from here on say, to which references and implicit tags lead, if those before say this
pub data LooksFrom (items : List Item) : Base → Look → Look → Type 0 where
  ends : (b : Base) (l : Look) → next_base (slice_get items b.end) b ≡ None → LooksFrom items b l l
  goes_on : (b c : Base) (l m : Look) → next_base (slice_get items b.end) b ≡ Some c
      → LooksFrom items c (look_or l (look_at (slice_get items c.end))) m → LooksFrom items b l m

-- an element of the type of an item looks so
abbrev pub LooksAs : List Item → ℕ → Look → Type 0
LooksAs items i l = LooksFrom items (base_at i) (look_at (slice_get items i)) l

-- a component is shown as the item with an index
pub record IsShownAs (items : List Item) (i : ℕ) (c : Component) : Type 0 where
  pub look : Look
  pub looks : LooksAs items i look
  pub words : c.words ≡ look.words
  pub secrecy : c.secrecy ≡ look.secrecy
