use Rattle.der_parser.specs.Items.{OwnsIdentifier}
use Rattle.der_uses.proofs.NamesLaws.Leaves.{type_read, type_refused, type_wants_memory}
use Rattle.der_uses.proofs.names.name.read_type.Goals as goal

pub returns-in-Err : goal.returns-in-Err
returns-in-Err c = type_refused c.args.i.now c.in-Err.e c.in-Err.ensures

pub returns-in-Ok-as_oid_val : goal.returns-in-Ok-as_oid_val
returns-in-Ok-as_oid_val c = type_read (OwnsIdentifier c.in-Ok.read.1.content) c.args.i.now c.in-Ok.read.1 c.in-Ok.read.0 c.in-Ok-as_oid_val.oid c.in-Ok.ensures c.in-Ok-as_oid_val.ensures

pub returns-in-Err-as_oid_val : goal.returns-in-Err-as_oid_val
returns-in-Err-as_oid_val c = type_wants_memory (OwnsIdentifier c.in-Ok.read.1.content) c.args.i.now c.in-Ok.read.1 c.in-Ok.read.0 c.in-Err-as_oid_val.e c.in-Ok.ensures c.in-Err-as_oid_val.ensures
