-- More exact reasons than those of the readers' errors.
use Rattle.std.specs.Prelude.{◌≡◌, ◌⊎◌, true, Option, Some, None, [], ◌∷◌}
use Rattle.extension_text.specs.declared.why.Why.{Why}
use Rattle.extension_text.specs.declared.why.Why.TheVariants.{AsRead, Default}
use Rattle.extension_text.specs.Why.{why_of}
use Rattle.der_base.specs.declared.header.Class.TheVariants.{Universal}
use Rattle.der_cursor.specs.Cursors.{is_at_end}
use Rattle.der_print.specs.Texts.{content_of}
use Rattle.der_elements.specs.declared.element.Element.{Element}
use Rattle.der_elements.specs.declared.name.TypeName.{TypeName}
use Rattle.der_show.specs.declared.place.Place.{Place}
use Rattle.der_show.specs.declared.refused.Refused.{Refused}
use Rattle.der_show.specs.Refused.{IsVersion, refusal_of}

-- the error is at the end of a list, where there is no element
abbrev pub IsAtEnd : Refused → Type 0
IsAtEnd r = is_at_end (refusal_of r).list_end (refusal_of r).offset ≡ true

-- an element is the BOOLEAN FALSE, or the INTEGER 0 as the version of a certificate (X.690 8.2, 8.3); these are values
-- of their types, so they are rejected only because they are defaults
abbrev pub IsDefault : Refused → Element → Type 0
IsDefault r e = (content_of e ≡ 0 ∷ []) × (e.class ≡ Universal)
    × ((e.number ≡ 1) ⊎ ((e.number ≡ 2) × IsVersion r))

abbrev pub type_of : Element → TypeName
type_of e = record { class = e.class; number = e.number }

-- the reason for an element, if its value is wrong
abbrev pub IsWhyWrong : Refused → Element → Why → Type 0
IsWhyWrong r e why = (IsDefault r e × (why ≡ Default)) ⊎ ((¬ IsDefault r e) × (why ≡ AsRead))

-- the reason for an error, if the element with the error has this position
abbrev pub IsWhy : Refused → Option Place → Why → Type 0
IsWhy r (Some p) why = (wrong : Why) × IsWhyWrong r p.element wrong
    × (why ≡ why_of (refusal_of r) (Some (type_of p.element)) wrong)
IsWhy r None why = why ≡ why_of (refusal_of r) None AsRead
