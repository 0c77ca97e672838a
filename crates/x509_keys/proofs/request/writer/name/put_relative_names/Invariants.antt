use Rattle.std.proofs.Common.{take}
use Rattle.std.specs.List.{flat_map}
use Rattle.der_writer.specs.Written.{Puts}
use Rattle.x509_keys.specs.Request.Writer.Octets.{relative_name_octets}
use Rattle.x509_keys.proofs.request.writer.name.put_relative_names.Given as goal

-- those before the index are put
abbrev pub invariant-loop-attribute : goal.invariant-loop-attribute
invariant-loop-attribute l = Puts (flat_map relative_name_octets (take l.attribute-index l.attributes)) l.fn.fields l.fields
