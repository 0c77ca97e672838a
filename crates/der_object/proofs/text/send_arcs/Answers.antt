use Rattle.std.proofs.Common.{◌≡◌, ◌∷◌, Some, ap, sym, ◌∙◌}
use Rattle.std.specs.Option.{option_map}
use Rattle.der_base.specs.Arcs.{arcs}
use Rattle.der_base.specs.Oids.{arcs_left, is_relative_of, octets_of}
use Rattle.der_object.proofs.Sending.{wrote_then}
use Rattle.der_object.proofs.text.send_arcs.Goals as goal

pub returns : goal.returns
returns g c =
    let oid = c.args.oid.now in
    let all : arcs (is_relative_of oid) (octets_of oid) ≡ Some (arcs_left c.in-Some.arcs) = sym c.iter.ensures ∙ ap (option_map arcs_left) c.in-Some.is in
    let first : arcs_left c.in-Some.arcs ≡ c.in-Some-next.first ∷ arcs_left c.next.new.self = c.in-Some-next.ensures.steps in
    rw (all, first) (wrote_then c.in_ok-send_number.ensures c.send_further_arcs.ensures)
