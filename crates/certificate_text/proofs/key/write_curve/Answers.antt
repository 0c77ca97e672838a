use Rattle.std.proofs.Common.{inl, inr}
use Rattle.der_values.specs.Kinds.{borrowed_octets}
use Rattle.extension_text.proofs.NamesLaws.WriteLaws.{one, restated}
use Rattle.certificate_text.proofs.key.write_curve.Goals as goal

pub returns-in-Ok : goal.returns-in-Ok
returns-in-Ok g c = restated (λ t x. inl (borrowed_octets c.in-Ok.curve, c.in-Ok.ensures.found, x)) c.write_identifier_line.ensures

pub returns-in-Err : goal.returns-in-Err
returns-in-Err g c =
    let wrote = rw c.parameters_label.ensures at c.write_octets.ensures in
    restated (λ t x. inr ((λ k so. c.in-Err.ensures.only k so), x)) (one wrote)
