use Rattle.std.proofs.Common.{inl, inr}
use Rattle.der_print.specs.Names.{table_of}
use Rattle.der_print.specs.Values.{identifier}
use Rattle.der_print.proofs.value.write_universal.Goals as goal

pub returns-in-6 : goal.returns-in-6
returns-in-6 g c = λ plain ok. let k = c.write_identifier.ensures plain ok in (k.0, identifier c.in-6.is k.1.0 k.1.1 k.1.2, k.2)

pub returns-in-23 : goal.returns-in-23
returns-in-23 g c = c.write_time.ensures (table_of c.args.own) (inl c.in-23.is)

pub returns-in-24 : goal.returns-in-24
returns-in-24 g c = c.write_time-in-24.ensures (table_of c.args.own) (inr c.in-24.is)
