use Rattle.std.proofs.Common.{◌++◌, Some, codes, false, refl}
use Rattle.der_print.specs.Values.{identifier_text}
use Rattle.extension_text.proofs.names.identifier.write_octets.Goals as goal

pub returns-in-Some : goal.returns-in-Some
returns-in-Some g c =
    let name = c.in-Some.name.now in
    λ plain ok. (name ++ (codes " (" ++ (identifier_text false c.args.octets.now ++ codes ")")), (Some name, c.in-Some.ensures, refl), c.write.ensures.writes plain ok)
