-- Printers of objects.
use Rattle.std.specs.Prelude.{◌≡◌, ℕ, Bool, true, false, not, if◌then◌else◌, List, [], ◌∷◌, ◌++◌}
use Rattle.std.specs.List.{list_any, filter}
use Rattle.der_base.specs.Pretty.{Style, pretty, further}
use Rattle.der_object.specs.declared.object.BerObject.{BerObject}
use Rattle.der_object.specs.declared.print.PrettyBer.{PrettyBer}
use Rattle.der_object.specs.declared.print.PrettyPrinterFlag.{PrettyPrinterFlag}
use Rattle.der_object.specs.declared.print.PrettyPrinterFlag.TheVariants.{Recursive, ShowHeader}
use Rattle.der_object.specs.HeaderFacts.{form_of}
use Rattle.der_object.specs.View.{tree}

-- the object that is printed
abbrev pub obj_of : PrettyBer → BerObject
obj_of p = p.obj.now

abbrev pub flags_of : PrettyBer → List PrettyPrinterFlag
flags_of p = p.flags.items

abbrev pub indent_of : PrettyBer → ℕ
indent_of p = p.indent

abbrev pub increment_of : PrettyBer → ℕ
increment_of p = p.increment

-- the printer has these parts: the object, the flags, its indent, and the further indent of items
pub record IsPrinter (p : PrettyBer) (o : BerObject) (fs : List PrettyPrinterFlag) (n step : ℕ) : Type 0 where
  pub object : obj_of p ≡ o
  pub flags : flags_of p ≡ fs
  pub indent : indent_of p ≡ n
  pub increment : increment_of p ≡ step

-- the printer has these flags, and otherwise the same parts
abbrev pub IsPrinterWith : List PrettyPrinterFlag → PrettyBer → PrettyBer → Type 0
IsPrinterWith fs old new = IsPrinter new (obj_of old) fs (indent_of old) (increment_of old)

abbrev pub same_flag : PrettyPrinterFlag → PrettyPrinterFlag → Bool
same_flag Recursive Recursive = true
same_flag ShowHeader ShowHeader = true
same_flag _ _ = false

abbrev pub has_flag : List PrettyPrinterFlag → PrettyPrinterFlag → Bool
has_flag fs flag = list_any (λ f. same_flag f flag) fs

-- the flags with this one added, if it isn't there
abbrev pub with_flag : List PrettyPrinterFlag → PrettyPrinterFlag → List PrettyPrinterFlag
with_flag fs flag = if has_flag fs flag then fs else fs ++ flag ∷ []

-- the flags without this one
abbrev pub without_flag : List PrettyPrinterFlag → PrettyPrinterFlag → List PrettyPrinterFlag
without_flag fs flag = filter (λ f. not (same_flag f flag)) fs

abbrev pub style_of : List PrettyPrinterFlag → ℕ → Style
style_of fs step =
    record { recursive = has_flag fs Recursive; headers = has_flag fs ShowHeader; increment = step }

-- the text of an object under flags; headers are printed with their own lengths
abbrev pub text_of : BerObject → List PrettyPrinterFlag → ℕ → ℕ → List ℕ
text_of o fs n step = pretty (style_of fs step) n (tree o) (form_of o)

-- the text that the printer writes
abbrev pub printed : PrettyBer → List ℕ
printed p = text_of (obj_of p) (flags_of p) (indent_of p) (increment_of p)

-- the indent of a printer of an object inside this one
abbrev pub next_indent : PrettyBer → ℕ
next_indent p = further (style_of (flags_of p) (increment_of p)) (indent_of p)
