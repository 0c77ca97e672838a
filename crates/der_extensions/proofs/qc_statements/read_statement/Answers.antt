use Rattle.std.proofs.Common.{refl}
use Rattle.der_values.specs.Kinds.{identifiers}
use Rattle.der_cursor.proofs.FormatLaws.{inside, value_read}
use Rattle.der_cursor.proofs.Sequences.{after, finish, left_over, refused_open, start, stops}
use Rattle.der_extensions.proofs.qc_statements.read_statement.Goals as goal

pub returns-in_err-fields : goal.returns-in_err-fields
returns-in_err-fields c = refused_open _ _ c.in_err-fields.ensures c.from_residual.ensures.1

pub returns-in_err-statement_id : goal.returns-in_err-statement_id
returns-in_err-statement_id c = inside _ _ c.in_ok-fields.ensures (λ fresh. stops _ (start _ fresh) (value_read (λ r. identifiers) c.in_err-statement_id.ensures) c.from_residual-in_err-statement_id.ensures.1)

pub returns-in_err-statement_info : goal.returns-in_err-statement_info
returns-in_err-statement_info c = inside _ _ c.in_ok-fields.ensures (λ fresh. stops _ (after (start _ fresh) (value_read (λ r. identifiers) c.in_ok-statement_id.ensures)) c.in_err-statement_info.ensures c.from_residual-in_err-statement_info.ensures.1)

pub returns-in_err-end : goal.returns-in_err-end
returns-in_err-end c = inside _ _ c.in_ok-fields.ensures (λ fresh. left_over _ (after (after (start _ fresh) (value_read (λ r. identifiers) c.in_ok-statement_id.ensures)) c.in_ok-statement_info.ensures) c.in_err-end.ensures.0 c.from_residual-in_err-end.ensures.1)

pub returns : goal.returns
returns c = inside _ _ c.in_ok-fields.ensures (λ fresh. finish (after (after (start _ fresh) (value_read (λ r. identifiers) c.in_ok-statement_id.ensures)) c.in_ok-statement_info.ensures) c.in_ok-end.ensures refl)
