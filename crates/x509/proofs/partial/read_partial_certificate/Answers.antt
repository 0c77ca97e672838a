use Rattle.std.proofs.Common.{subst}
use Rattle.std.specs.Option.{option_map}
use Rattle.x509.specs.Partial.Partials.{AreFields, IsPartial, partial_of}
use Rattle.x509.proofs.PartialLaws.PartialLaws.{partial_one}
use Rattle.x509.proofs.partial.read_partial_certificate.Goals as goal

pub returns : goal.returns
returns c =
    let found : IsPartial c.args.octets.now (partial_of c.read_fields.result) = (
      option_map (λ w. w.now) c.open_sequence_in-content.result,
      c.open_sequence_in-content.ensures,
      subst (λ z. AreFields z (partial_of c.read_fields.result)) c.new.ensures c.read_fields.ensures,
    ) in
    record { found = found; only = λ p h. partial_one c.args.octets.now _ p found h }
