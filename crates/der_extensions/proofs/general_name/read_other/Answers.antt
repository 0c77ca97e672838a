use Rattle.std.proofs.Common.{refl}
use Rattle.std.proofs.lemmas.Result.{err_from_is_err_and}
use Rattle.der_values.specs.Kinds.{identifiers}
use Rattle.der_cursor.proofs.FormatLaws.{inside_of, unopened_of, value_read}
use Rattle.der_cursor.proofs.Sequences.{after, finish, left_over, start, stops}
use Rattle.der_extensions.proofs.general_name.read_other.Goals as goal

pub returns-in_err-fields : goal.returns-in_err-fields
returns-in_err-fields c =
    let q = err_from_is_err_and c.from_residual.result c.from_residual.ensures.1 in
    rw q.1 (unopened_of _ c.in_err-fields.ensures)

pub returns-in_err-type_id : goal.returns-in_err-type_id
returns-in_err-type_id c = inside_of _ c.in_ok-fields.ensures (λ fresh. stops _ (start _ fresh) (value_read (λ r. identifiers) c.in_err-type_id.ensures) c.from_residual-in_err-type_id.ensures.1)

pub returns-in_err-value : goal.returns-in_err-value
returns-in_err-value c = inside_of _ c.in_ok-fields.ensures (λ fresh. stops _ (after (start _ fresh) (value_read (λ r. identifiers) c.in_ok-type_id.ensures)) c.in_err-value.ensures c.from_residual-in_err-value.ensures.1)

pub returns-in_err-end : goal.returns-in_err-end
returns-in_err-end c = inside_of _ c.in_ok-fields.ensures (λ fresh. left_over _ (after (after (start _ fresh) (value_read (λ r. identifiers) c.in_ok-type_id.ensures)) c.in_ok-value.ensures) c.in_err-end.ensures.0 c.from_residual-in_err-end.ensures.1)

pub returns : goal.returns
returns c = inside_of _ c.in_ok-fields.ensures (λ fresh. finish (after (after (start _ fresh) (value_read (λ r. identifiers) c.in_ok-type_id.ensures)) c.in_ok-value.ensures) c.in_ok-end.ensures refl)
