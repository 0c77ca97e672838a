use Rattle.std.proofs.Common.{◌≡◌, ◌∙◌, ap, subst, Some}
use Rattle.std.specs.Fmt.{DisplaysOnOk}
use Rattle.der_base.specs.Arcs.{arcs}
use Rattle.der_base.specs.Oids.{is_relative_of, octets_of}
use Rattle.der_base.specs.Pretty.{arcs_text, hex}
use Rattle.der_values.proofs.SmallArcs.{no_arcs_below}
use Rattle.der_values.proofs.identifier_text.write_octets.Goals as goal

pub returns : goal.returns
returns g c =
    let x = c.args.identifier in
    let oid = c.to_oid-oid.result in
    let w = x.octets.now in
    let shown : Some (arcs_text (arcs (is_relative_of oid) (octets_of oid)) (octets_of oid)) ≡ Some (hex w) =
    ap (λ v. Some (arcs_text (arcs (is_relative_of oid) v) v)) c.to_oid-oid.ensures.octets
    ∙ ap (λ r. Some (arcs_text (arcs r w) w)) c.to_oid-oid.ensures.relative
    ∙ ap (λ o. Some (arcs_text o w)) (no_arcs_below x.relative w c.requires) in
    subst (λ o. DisplaysOnOk g.W.Write.write_str_gives c.args.f.now c.write.result o c.write.new.self) shown c.write.ensures.writes
