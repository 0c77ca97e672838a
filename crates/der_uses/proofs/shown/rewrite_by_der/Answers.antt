use Rattle.std.proofs.Common.{rules}
use Rattle.der_uses.proofs.ObjectLaws.{not_read, refused_as, rewritten_as}
use Rattle.der_uses.proofs.shown.rewrite_by_der.Goals as goal

pub returns-in-Ok-clause-written : goal.returns-in-Ok-clause-written
returns-in-Ok-clause-written c = rewritten_as c.args.input.now _ _ _ c.in-Ok.ensures.exactly c.to_vec.ensures.ok

pub returns-in-Ok-clause-refused : goal.returns-in-Ok-clause-refused
returns-in-Ok-clause-refused c = refused_as c.args.input.now _ _ _ c.in-Ok.ensures.exactly c.to_vec.ensures.too_large c.to_vec.ensures.errors

pub returns-in-Err-clause-written : goal.returns-in-Err-clause-written
returns-in-Err-clause-written c = not_read c.args.input.now _ _ c.in-Err.ensures.exactly (search rules)
