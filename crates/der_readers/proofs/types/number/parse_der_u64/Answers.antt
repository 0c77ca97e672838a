use Rattle.std.proofs.Common.{pos}
use Rattle.std.proofs.lemmas.Result.{err_from_is_err_and}
use Rattle.der_base.specs.Numbers.{unsigned}
use Rattle.der_values.proofs.LawsLaws.Leaves.NumberReaders.{der_number_read, der_number_refused, der_number_unread}
use Rattle.der_readers.proofs.types.number.parse_der_u64.Goals as goal

pub returns-in_err-rest : goal.returns-in_err-rest
returns-in_err-rest c =
    let q = err_from_is_err_and c.from_residual.result c.from_residual.ensures.1 in
    rw (q.1, q.2) (der_number_unread pos (unsigned 64) c.args.i.now _ c.in_err-rest.field-0.0 c.in_err-rest.ensures)

pub returns-in_err-n : goal.returns-in_err-n
returns-in_err-n c =
    let q = err_from_is_err_and c.from_residual-in_err-n.result c.from_residual-in_err-n.ensures.1 in
    rw (q.1, q.2) (der_number_refused pos (unsigned 64) c.args.i.now c.in_err-n.field-0.0 c.in_ok-rest.octets.now c.in_ok-rest.rest.now c.in_ok-rest.ensures c.in_err-n.ensures.number)

pub returns : goal.returns
returns c =
    der_number_read pos (unsigned 64) c.args.i.now _ c.in_ok-rest.octets.now c.in_ok-rest.ensures c.in_ok-n.ensures.number.0 c.in_ok-n.ensures.number.1
