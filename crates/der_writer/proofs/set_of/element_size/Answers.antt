use Rattle.std.proofs.Common.{arith}
use Rattle.der_writer.proofs.Measuring.{measured, refused}
use Rattle.der_writer.proofs.set_of.element_size.Goals as goal

pub returns-in-Ok : goal.returns-in-Ok
returns-in-Ok c = measured c.args.octets.now _ (omega arith) c.in-Ok.ensures

pub returns-in-Err : goal.returns-in-Err
returns-in-Err c = refused c.args.octets.now _ (omega arith) c.in-Err.ensures
