use Rattle.std.proofs.Common.{sym, subst}
use Rattle.der_base.specs.Octets.{identifier, shortest_length}
use Rattle.der_writer.specs.Fields.{primitive}
use Rattle.der_writer.specs.Written.{Puts}
use Rattle.x509_keys.specs.declared.request.writer.algorithm.Parameters.{Parameters}
use Rattle.x509_keys.specs.Request.Writer.Octets.{parameter_octets}
use Rattle.x509_keys.proofs.request.writer.algorithm.put_parameters.Goals as goal

pub returns-in-Null : goal.returns-in-Null
unfolding primitive identifier shortest_length
returns-in-Null c =
    let P : Parameters → Type 0 = λ p. Puts (parameter_octets p) c.args.fields.now c.put_elements-in-Null.new.self in
    subst P (sym c.in-Null.is) c.put_elements-in-Null.ensures
