-- The extension that an element is in, during a walk.
use Rattle.std.specs.Prelude.{ℕ, Bool, nat_le, if◌then◌else◌, Option, Some, None, List}
use Rattle.der_print.specs.Texts.{content_of}
use Rattle.der_elements.specs.declared.element.Element.{Element}
use Rattle.der_show.specs.declared.extension.Around.{Around}
use Rattle.der_show.specs.declared.extension.Extension.{Extension}

-- the depth of the fields of an extension, and its identifier
abbrev pub extension_of : Option Extension → Option (ℕ × List ℕ)
extension_of None = None
extension_of (Some x) = Some (x.depth, x.identifier.now)

abbrev pub around_of : Around → Option (ℕ × List ℕ)
around_of a = extension_of a.extension

-- the extension that an element at this depth is still in, if it is in it
abbrev pub kept : Option (ℕ × List ℕ) → ℕ → Option (ℕ × List ℕ)
kept None depth = None
kept (Some x) depth = if nat_le x.0 depth then Some x else None

-- the extension after one more element, which is the identifier of an extension or not
abbrev pub around_past : Option (ℕ × List ℕ) → Bool → Element → Option (ℕ × List ℕ)
around_past x says e = if says then Some (e.depth, content_of e) else kept x e.depth
