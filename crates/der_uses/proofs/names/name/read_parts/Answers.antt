use Rattle.std.proofs.Common.{rules}
use Rattle.der_uses.proofs.NamesLaws.Attributes.{no_type, no_value, octets_left, parts_read}
use Rattle.der_uses.proofs.names.name.read_parts.Goals as goal

pub returns-in-Err : goal.returns-in-Err
returns-in-Err c = no_type c.args.i.now c.in-Err.e c.in-Err.ensures

pub returns-in-Err-read_value : goal.returns-in-Err-read_value
returns-in-Err-read_value c = no_value c.args.i.now c.in-Ok.read.0 c.in-Ok.read.1 c.in-Ok.ensures c.in-Err-read_value.e c.in-Err-read_value.ensures

pub returns-then-not-is_empty : goal.returns-then-not-is_empty
returns-then-not-is_empty c =
    octets_left c.args.i.now c.in-Ok.read.0 c.in-Ok.read.1 c.in-Ok.ensures c.in-Ok-read_value.read.0 c.in-Ok-read_value.read.1 c.in-Ok-read_value.ensures _ (search rules)

pub returns : goal.returns
returns c = parts_read c.args.i.now c.in-Ok.read.0 c.in-Ok.read.1 c.in-Ok.ensures c.in-Ok-read_value.read.0 c.in-Ok-read_value.read.1 c.in-Ok-read_value.ensures (search rules)
