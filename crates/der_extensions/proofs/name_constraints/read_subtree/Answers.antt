use Rattle.std.proofs.Common.{refl}
use Rattle.der_cursor.proofs.FormatLaws.{inside}
use Rattle.der_cursor.proofs.Sequences.{after, finish, left_over, refused_open, start, stops}
use Rattle.der_extensions.proofs.name_constraints.read_subtree.Goals as goal

pub returns-in_err-fields : goal.returns-in_err-fields
returns-in_err-fields c = refused_open _ _ c.in_err-fields.ensures c.from_residual.ensures.1

pub returns-in_err-base : goal.returns-in_err-base
returns-in_err-base c = inside _ _ c.in_ok-fields.ensures (λ fresh. stops _ (start _ fresh) (c.in_err-base.ensures) c.from_residual-in_err-base.ensures.1)

pub returns-in_err-minimum : goal.returns-in_err-minimum
returns-in_err-minimum c = inside _ _ c.in_ok-fields.ensures (λ fresh. stops _ (after (start _ fresh) (c.in_ok-base.ensures)) (c.in_err-minimum.ensures) c.from_residual-in_err-minimum.ensures.1)

pub returns-in_err-maximum : goal.returns-in_err-maximum
returns-in_err-maximum c = inside _ _ c.in_ok-fields.ensures (λ fresh. stops _ (after (after (start _ fresh) (c.in_ok-base.ensures)) (c.in_ok-minimum.ensures)) (c.in_err-maximum.ensures) c.from_residual-in_err-maximum.ensures.1)

pub returns-in_err-end : goal.returns-in_err-end
returns-in_err-end c = inside _ _ c.in_ok-fields.ensures (λ fresh. left_over _ (after (after (after (start _ fresh) (c.in_ok-base.ensures)) (c.in_ok-minimum.ensures)) (c.in_ok-maximum.ensures)) (c.in_err-end.ensures.0) c.from_residual-in_err-end.ensures.1)

pub returns : goal.returns
returns c = inside _ _ c.in_ok-fields.ensures (λ fresh. finish (after (after (after (start _ fresh) (c.in_ok-base.ensures)) (c.in_ok-minimum.ensures)) (c.in_ok-maximum.ensures)) (c.in_ok-end.ensures) refl)
