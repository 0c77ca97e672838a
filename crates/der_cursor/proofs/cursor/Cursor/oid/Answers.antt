use Rattle.std.proofs.lemmas.Result.{err_from_is_err_and}
use Rattle.der_values.specs.Kinds.{borrowed_octets, identifiers}
use Rattle.der_cursor.proofs.KindLaws.{identifier_one}
use Rattle.der_cursor.proofs.ValueLaws.{value_refused, value_taken}
use Rattle.der_cursor.proofs.cursor.Cursor.oid.Goals as goal

pub returns-in_err-rest : goal.returns-in_err-rest
returns-in_err-rest c =
    let q = err_from_is_err_and c.from_residual.result c.from_residual.ensures.1 in
    rw (q.1, q.2) (value_refused borrowed_octets identifiers 6 identifier_one c.args.self.now c.in_err-rest.field-0.0 c.in_err-rest.ensures)

pub returns : goal.returns
returns c =
    value_taken borrowed_octets identifiers 6 identifier_one c.args.self.now c.in_ok-rest.rest c.in_ok-rest.octets c.read_identifier.result c.take.result c.take.new.self c.in_ok-rest.ensures c.read_identifier.ensures c.take.ensures
