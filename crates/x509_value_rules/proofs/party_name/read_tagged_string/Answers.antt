use Rattle.std.proofs.lemmas.Result.{err_from_is_err_and}
use Rattle.der_cursor.proofs.FormatLaws.{inside_of, unopened_of}
use Rattle.der_cursor.proofs.Sequences.{only_left, only_read, only_stops}
use Rattle.x509_value_rules.proofs.party_name.read_tagged_string.Goals as goal

pub returns-in_err-inside : goal.returns-in_err-inside
returns-in_err-inside c =
    let q = err_from_is_err_and c.from_residual.result c.from_residual.ensures.1 in
    rw q.1 (unopened_of _ c.in_err-inside.ensures)

pub returns-in_err-string : goal.returns-in_err-string
returns-in_err-string c =
    let q = err_from_is_err_and c.from_residual-in_err-string.result c.from_residual-in_err-string.ensures.1 in
    rw (q.1, q.2) (inside_of _ c.in_ok-inside.ensures (only_stops c.in_err-string.ensures))

pub returns-in_err-end : goal.returns-in_err-end
returns-in_err-end c =
    let q = err_from_is_err_and c.from_residual-in_err-end.result c.from_residual-in_err-end.ensures.1 in
    rw q.1 (inside_of _ c.in_ok-inside.ensures (only_left c.in_ok-string.ensures c.in_err-end.ensures.0))

pub returns : goal.returns
returns c = inside_of _ c.in_ok-inside.ensures (only_read c.in_ok-string.ensures c.in_ok-end.ensures)
