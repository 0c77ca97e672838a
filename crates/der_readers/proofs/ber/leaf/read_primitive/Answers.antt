use Rattle.der_readers.proofs.ber.leaf.read_primitive.Goals as goal

pub returns-in_ok-read_string-in_default : goal.returns-in_ok-read_string-in_default
returns-in_ok-read_string-in_default c = c.in_ok-read_string-in_default.ensures c.args.rules
