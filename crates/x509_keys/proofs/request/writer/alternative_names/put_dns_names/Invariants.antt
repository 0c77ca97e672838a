use Rattle.std.proofs.Common.{take}
use Rattle.std.specs.List.{flat_map}
use Rattle.der_writer.specs.Written.{Puts}
use Rattle.x509_keys.specs.Request.Writer.Octets.{dns_name_octets}
use Rattle.x509_keys.proofs.request.writer.alternative_names.put_dns_names.Given as goal

-- those before the index are put
abbrev pub invariant-loop-name : goal.invariant-loop-name
invariant-loop-name l = Puts (flat_map (λ n. dns_name_octets n.now) (take l.name-index l.dns_names)) l.fn.fields l.fields
