-- A word beside those of der_cursor's formats.
use Rattle.std.specs.Prelude.{ℕ, Bool, List}
use Rattle.der_base.specs.declared.header.Class.TheVariants.{ContextSpecific}
use Rattle.der_cursor.specs.Elements.{SpellsElement}
use Rattle.der_cursor.specs.Formats.{Field}

-- an element of the class context-specific, which isn't kept
unfoldable pub AnyChoice : Field (Unit {0})
AnyChoice r i u rest = (p : Bool) × (n : ℕ) × (w : List ℕ) × SpellsElement r ContextSpecific p n i (w, rest)
