use Rattle.std.proofs.Common.{◌++◌, Some, codes, false, refl}
use Rattle.std.proofs.Output.{has_written_append}
use Rattle.der_print.specs.Names.{name_text}
use Rattle.der_print.specs.Values.{identifier_text}
use Rattle.der_print.proofs.value.write_identifier.Goals as goal

pub returns-in_ok-write_spaced-in-Some : goal.returns-in_ok-write_spaced-in-Some
returns-in_ok-write_spaced-in-Some g c =
    let w = c.args.octets.now in
    let name = Some c.in-Some.text.now in
    λ plain ok.
    let arcs = c.in_ok-write_spaced-in-Some.ensures plain refl in
    let named = c.write_spaced-in-Some.ensures arcs.plain ok in
    ((codes " " ++ identifier_text false w) ++ name_text c.args.limit name, (name, c.in-Some.ensures, refl), has_written_append _ _ _ _ _ _ arcs named)
