use Rattle.std.proofs.Common.{refl, ap}
use Rattle.der_cursor.proofs.NamedLaws.{one_more, at_error}
use Rattle.der_cursor.proofs.named.ResultFieldErrorNamed.named.Goals as goal

pub returns-in-Err : goal.returns-in-Err
returns-in-Err g c = rw c.in-Err.is (refl, one_more c.in-Err.refused.names.items c.try_insert.new.self.items c.args.name c.try_insert.result c.try_insert.ensures.variant c.try_insert.ensures.ok (at_error c.try_insert.result c.try_insert.ensures.err (λ e. ap (λ v. v.items) e)) c.try_insert.ensures.full)
