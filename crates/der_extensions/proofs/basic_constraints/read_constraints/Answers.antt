use Rattle.std.proofs.Common.{refl}
use Rattle.der_base.specs.Numbers.{unsigned}
use Rattle.der_values.specs.Kinds.{numbers}
use Rattle.der_cursor.proofs.FormatLaws.{boolean_or_read, inside, optional_read}
use Rattle.der_cursor.proofs.Sequences.{after, finish, left_over, refused_open, start, stops}
use Rattle.der_extensions.proofs.basic_constraints.read_constraints.Goals as goal

pub returns-in_err-fields : goal.returns-in_err-fields
returns-in_err-fields c = refused_open _ _ c.in_err-fields.ensures c.from_residual.ensures.1

pub returns-in_err-ca : goal.returns-in_err-ca
returns-in_err-ca c = inside _ _ c.in_ok-fields.ensures (λ fresh. stops _ (start _ fresh) (boolean_or_read _ c.in_err-ca.ensures) c.from_residual-in_err-ca.ensures.1)

pub returns-in_err-path_length : goal.returns-in_err-path_length
returns-in_err-path_length c = inside _ _ c.in_ok-fields.ensures (λ fresh. stops _ (after (start _ fresh) (boolean_or_read _ c.in_ok-ca.ensures)) (optional_read (λ r. numbers r (unsigned 32)) 2 c.in_err-path_length.ensures) c.from_residual-in_err-path_length.ensures.1)

pub returns-in_err-end : goal.returns-in_err-end
returns-in_err-end c = inside _ _ c.in_ok-fields.ensures (λ fresh. left_over _ (after (after (start _ fresh) (boolean_or_read _ c.in_ok-ca.ensures)) (optional_read (λ r. numbers r (unsigned 32)) 2 c.in_ok-path_length.ensures)) (c.in_err-end.ensures.0) c.from_residual-in_err-end.ensures.1)

pub returns : goal.returns
returns c = inside _ _ c.in_ok-fields.ensures (λ fresh. finish (after (after (start _ fresh) (boolean_or_read _ c.in_ok-ca.ensures)) (optional_read (λ r. numbers r (unsigned 32)) 2 c.in_ok-path_length.ensures)) (c.in_ok-end.ensures) refl)
