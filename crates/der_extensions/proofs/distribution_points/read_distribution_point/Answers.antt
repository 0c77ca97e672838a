use Rattle.std.proofs.Common.{refl}
use Rattle.der_cursor.proofs.FormatLaws.{inside}
use Rattle.der_cursor.proofs.Sequences.{after, finish, left_over, refused_open, start, stops}
use Rattle.der_extensions.proofs.distribution_points.read_distribution_point.Goals as goal

pub returns-in_err-fields : goal.returns-in_err-fields
returns-in_err-fields c = refused_open _ _ c.in_err-fields.ensures c.from_residual.ensures.1

pub returns-in_err-distribution_point : goal.returns-in_err-distribution_point
returns-in_err-distribution_point c = inside _ _ c.in_ok-fields.ensures (λ fresh. stops _ (start _ fresh) (c.in_err-distribution_point.ensures) c.from_residual-in_err-distribution_point.ensures.1)

pub returns-in_err-reasons : goal.returns-in_err-reasons
returns-in_err-reasons c = inside _ _ c.in_ok-fields.ensures (λ fresh. stops _ (after (start _ fresh) (c.in_ok-distribution_point.ensures)) (c.in_err-reasons.ensures) c.from_residual-in_err-reasons.ensures.1)

pub returns-in_err-crl_issuer : goal.returns-in_err-crl_issuer
returns-in_err-crl_issuer c = inside _ _ c.in_ok-fields.ensures (λ fresh. stops _ (after (after (start _ fresh) (c.in_ok-distribution_point.ensures)) (c.in_ok-reasons.ensures)) (c.in_err-crl_issuer.ensures) c.from_residual-in_err-crl_issuer.ensures.1)

pub returns-in_err-end : goal.returns-in_err-end
returns-in_err-end c = inside _ _ c.in_ok-fields.ensures (λ fresh. left_over _ (after (after (after (start _ fresh) (c.in_ok-distribution_point.ensures)) (c.in_ok-reasons.ensures)) (c.in_ok-crl_issuer.ensures)) (c.in_err-end.ensures.0) c.from_residual-in_err-end.ensures.1)

pub returns : goal.returns
returns c = inside _ _ c.in_ok-fields.ensures (λ fresh. finish (after (after (after (start _ fresh) (c.in_ok-distribution_point.ensures)) (c.in_ok-reasons.ensures)) (c.in_ok-crl_issuer.ensures)) (c.in_ok-end.ensures) refl)
