use Rattle.std.specs.Option.{option_map}
use Rattle.der_cursor.specs.Elements.{element_of}
use Rattle.c_formats.proofs.key_kind.key_kind.Goals as goal

pub returns : goal.returns
returns c = (option_map element_of c.only_element.result, c.only_element.ensures, c.optional_any-parameters.result, c.optional_any-parameters.ensures, c.kind_of.ensures)
