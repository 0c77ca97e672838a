use Rattle.std.proofs.Common.{◌++◌, None, Some, codes, false, refl}
use Rattle.der_print.specs.Values.{identifier_text}
use Rattle.der_show.proofs.place_text.write_extension.Goals as goal

pub returns-in-Some : goal.returns-in-Some
returns-in-Some g c =
    let name = c.in-Some.name.now in
    let id = name ++ (codes " (" ++ (identifier_text false c.args.identifier.now ++ codes ")")) in
    λ plain ok. (codes " of " ++ id, (id, (Some name, c.in-Some.ensures, refl), refl), c.write.ensures.writes plain ok)

pub returns-in-None : goal.returns-in-None
returns-in-None g c =
    let id = identifier_text false c.args.identifier.now in
    λ plain ok. (codes " of " ++ id, (id, (None, tt, refl), refl), c.write-in-None.ensures.writes plain ok)
