use Rattle.std.proofs.Common.{arith}
use Rattle.der_base.proofs.Octets.Identifiers.{identifier_short}
use Rattle.der_writer.proofs.Headers.{one_octet}
use Rattle.der_writer.proofs.element.identifier_octet.Goals as goal

pub write_identifier-requires-clause-room : goal.write_identifier-requires-clause-room
write_identifier-requires-clause-room c = rw (identifier_short c.args.class c.args.constructed c.args.tag.0 c.requires) (omega arith)

pub returns : goal.returns
returns c = one_octet _ _ _ _ _ (identifier_short c.args.class c.args.constructed c.args.tag.0 c.requires) c.write_identifier.ensures
