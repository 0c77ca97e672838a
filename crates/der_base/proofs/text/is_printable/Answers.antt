-- The table is held against the definition at each of the 256 octets, by computing.
use Rattle.std.proofs.Common.{refl, arith}
use Rattle.der_base.specs.declared.text.TheConstants.{PRINTABLE}
use Rattle.der_base.proofs.Leaves.Texts.{by_table}
use Rattle.der_base.proofs.text.is_printable.Goals as goal

pub returns : goal.returns
returns c = by_table PRINTABLE c.args.b (omega arith) refl
