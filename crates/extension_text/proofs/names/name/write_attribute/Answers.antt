use Rattle.std.proofs.Common.{◌++◌, None, Some, ap, codes, false, refl, subst}
use Rattle.std.proofs.Output.{has_written_append, has_written_of_eq}
use Rattle.der_print.specs.Values.{identifier_text}
use Rattle.extension_text.specs.Names.Names.{IsTypeName}
use Rattle.extension_text.proofs.names.name.write_attribute.Goals as goal

pub returns-in_ok-write-in-Some : goal.returns-in_ok-write-in-Some
returns-in_ok-write-in-Some g c =
    let name = Some c.in-Some.name.now in
    λ plain ok.
    let head = c.in_ok-write-in-Some.ensures.writes plain refl in
    let value = c.write_value.ensures head.plain ok in
    (_, (name, subst (λ w. IsTypeName w name) c.absolute_octets-octets.ensures c.in-Some.ensures, refl), has_written_append _ _ _ _ _ _ head value)

pub returns-in_ok-write-in-None : goal.returns-in_ok-write-in-None
returns-in_ok-write-in-None g c =
    λ plain ok.
    let head = c.in_ok-write-in-None.ensures.writes plain refl in
    let head' = has_written_of_eq _ _ _ _ _ (ap (λ w. identifier_text false w ++ codes "=") c.absolute_octets-octets.ensures) head in
    let value = c.write_element.ensures head.plain ok in
    (_, (None, subst (λ w. IsTypeName w None) c.absolute_octets-octets.ensures c.in-None.ensures, refl), has_written_append _ _ _ _ _ _ head' value)
