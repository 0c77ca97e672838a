-- Elements of any type as C sees them.
use Rattle.std.specs.Prelude.{◌≡◌, Option, Some, None, []}
use Rattle.der_cursor.specs.Elements.{Element}
use Rattle.c_values.specs.declared.any.DmAny.{DmAny}
use Rattle.c_values.specs.Elements.{bit, class_number}

-- the fields are those of the element (X.690 8.1)
pub record HasAny (e : Element) (d : DmAny) : Type 0 where
  pub content : d.content.now ≡ e.3
  pub number : d.number ≡ e.2
  pub class : d.tag_class ≡ class_number e.0
  pub constructed : d.constructed ≡ bit e.1
  pub reserved : d.reserved ≡ 0

-- there is no element, and the fields are empty and 0
pub record HasNone (d : DmAny) : Type 0 where
  pub content : d.content.now ≡ []
  pub number : d.number ≡ 0
  pub class : d.tag_class ≡ 0
  pub constructed : d.constructed ≡ 0
  pub reserved : d.reserved ≡ 0

abbrev pub HasAnyOrNone : Option Element → DmAny → Type 0
HasAnyOrNone (Some e) d = HasAny e d
HasAnyOrNone None d = HasNone d
