use Rattle.std.proofs.Common.{refl}
use Rattle.der_cursor.proofs.FormatLaws.{inside}
use Rattle.der_cursor.proofs.Sequences.{after, finish, left_over, refused_open, start, stops}
use Rattle.der_extensions.proofs.issuing_distribution_point.read_point.Goals as goal

pub returns-in_err-fields : goal.returns-in_err-fields
returns-in_err-fields c = refused_open _ _ c.in_err-fields.ensures c.from_residual.ensures.1

pub returns-in_err-distribution_point : goal.returns-in_err-distribution_point
returns-in_err-distribution_point c = inside _ _ c.in_ok-fields.ensures (λ fresh. stops _ (start _ fresh) c.in_err-distribution_point.ensures c.from_residual-in_err-distribution_point.ensures.1)

pub returns-in_err-only_contains_user_certs : goal.returns-in_err-only_contains_user_certs
returns-in_err-only_contains_user_certs c = inside _ _ c.in_ok-fields.ensures (λ fresh. stops _ (after (start _ fresh) c.in_ok-distribution_point.ensures) c.in_err-only_contains_user_certs.ensures c.from_residual-in_err-only_contains_user_certs.ensures.1)

pub returns-in_err-only_contains_ca_certs : goal.returns-in_err-only_contains_ca_certs
returns-in_err-only_contains_ca_certs c = inside _ _ c.in_ok-fields.ensures (λ fresh. stops _ (after (after (start _ fresh) c.in_ok-distribution_point.ensures) c.in_ok-only_contains_user_certs.ensures) c.in_err-only_contains_ca_certs.ensures c.from_residual-in_err-only_contains_ca_certs.ensures.1)

pub returns-in_err-only_some_reasons : goal.returns-in_err-only_some_reasons
returns-in_err-only_some_reasons c = inside _ _ c.in_ok-fields.ensures (λ fresh. stops _ (after (after (after (start _ fresh) c.in_ok-distribution_point.ensures) c.in_ok-only_contains_user_certs.ensures) c.in_ok-only_contains_ca_certs.ensures) c.in_err-only_some_reasons.ensures c.from_residual-in_err-only_some_reasons.ensures.1)

pub returns-in_err-indirect_crl : goal.returns-in_err-indirect_crl
returns-in_err-indirect_crl c = inside _ _ c.in_ok-fields.ensures (λ fresh. stops _ (after (after (after (after (start _ fresh) c.in_ok-distribution_point.ensures) c.in_ok-only_contains_user_certs.ensures) c.in_ok-only_contains_ca_certs.ensures) c.in_ok-only_some_reasons.ensures) c.in_err-indirect_crl.ensures c.from_residual-in_err-indirect_crl.ensures.1)

pub returns-in_err-only_contains_attribute_certs : goal.returns-in_err-only_contains_attribute_certs
returns-in_err-only_contains_attribute_certs c = inside _ _ c.in_ok-fields.ensures (λ fresh. stops _ (after (after (after (after (after (start _ fresh) c.in_ok-distribution_point.ensures) c.in_ok-only_contains_user_certs.ensures) c.in_ok-only_contains_ca_certs.ensures) c.in_ok-only_some_reasons.ensures) c.in_ok-indirect_crl.ensures) c.in_err-only_contains_attribute_certs.ensures c.from_residual-in_err-only_contains_attribute_certs.ensures.1)

pub returns-in_err-end : goal.returns-in_err-end
returns-in_err-end c = inside _ _ c.in_ok-fields.ensures (λ fresh. left_over _ (after (after (after (after (after (after (start _ fresh) c.in_ok-distribution_point.ensures) c.in_ok-only_contains_user_certs.ensures) c.in_ok-only_contains_ca_certs.ensures) c.in_ok-only_some_reasons.ensures) c.in_ok-indirect_crl.ensures) c.in_ok-only_contains_attribute_certs.ensures) c.in_err-end.ensures.0 c.from_residual-in_err-end.ensures.1)

pub returns : goal.returns
returns c = inside _ _ c.in_ok-fields.ensures (λ fresh. finish (after (after (after (after (after (after (start _ fresh) c.in_ok-distribution_point.ensures) c.in_ok-only_contains_user_certs.ensures) c.in_ok-only_contains_ca_certs.ensures) c.in_ok-only_some_reasons.ensures) c.in_ok-indirect_crl.ensures) c.in_ok-only_contains_attribute_certs.ensures) c.in_ok-end.ensures refl)
