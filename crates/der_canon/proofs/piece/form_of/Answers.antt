use Rattle.std.proofs.Common.{arith}
use Rattle.der_canon.proofs.Readings.{no_part}
use Rattle.der_canon.proofs.piece.form_of.Goals as goal

pub returns-in-Err-clause-part : goal.returns-in-Err-clause-part
returns-in-Err-clause-part c = λ i s u g a. no_part s u c.args.element.now c.in-Some.around c.in-Err.cause (rw c.in-Some.is at a) (omega arith) c.in-Err.ensures.part
