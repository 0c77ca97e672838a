use Rattle.std.proofs.Common.{None, Some, refl}
use Rattle.std.specs.Option.{option_map}
use Rattle.x509.specs.Certificates.{bits_of}
use Rattle.x509.proofs.PartialLaws.FieldLaws.{follows}
use Rattle.x509.proofs.PartialLaws.PartialLaws.{id_exact}
use Rattle.x509.proofs.partial.fields.Fields.unique_id.Goals as goal

pub returns-in-Some : goal.returns-in-Some
returns-in-Some c =
    (Some (option_map bits_of c.in-Some.id), follows (Some c.in-Some.id) _ (id_exact c.args.number) c.in_ok-fields.ensures c.read_unique_id-found.ensures c.in-Some.ensures, refl)

pub returns-in-None : goal.returns-in-None
returns-in-None c = (None, follows None _ (id_exact c.args.number) c.in_ok-fields.ensures c.read_unique_id-found.ensures c.in-None.ensures, refl)
