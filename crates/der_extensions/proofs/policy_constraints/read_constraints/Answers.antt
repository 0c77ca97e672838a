use Rattle.std.proofs.Common.{refl}
use Rattle.der_cursor.proofs.FormatLaws.{inside}
use Rattle.der_cursor.proofs.Sequences.{after, finish, left_over, refused_open, start, stops}
use Rattle.der_extensions.proofs.policy_constraints.read_constraints.Goals as goal

pub returns-in_err-fields : goal.returns-in_err-fields
returns-in_err-fields c = refused_open _ _ c.in_err-fields.ensures c.from_residual.ensures.1

pub returns-in_err-require_explicit_policy : goal.returns-in_err-require_explicit_policy
returns-in_err-require_explicit_policy c = inside _ _ c.in_ok-fields.ensures (λ fresh. stops _ (start _ fresh) c.in_err-require_explicit_policy.ensures c.from_residual-in_err-require_explicit_policy.ensures.1)

pub returns-in_err-inhibit_policy_mapping : goal.returns-in_err-inhibit_policy_mapping
returns-in_err-inhibit_policy_mapping c = inside _ _ c.in_ok-fields.ensures (λ fresh. stops _ (after (start _ fresh) c.in_ok-require_explicit_policy.ensures) c.in_err-inhibit_policy_mapping.ensures c.from_residual-in_err-inhibit_policy_mapping.ensures.1)

pub returns-in_err-end : goal.returns-in_err-end
returns-in_err-end c = inside _ _ c.in_ok-fields.ensures (λ fresh. left_over _ (after (after (start _ fresh) c.in_ok-require_explicit_policy.ensures) c.in_ok-inhibit_policy_mapping.ensures) c.in_err-end.ensures.0 c.from_residual-in_err-end.ensures.1)

pub returns : goal.returns
returns c = inside _ _ c.in_ok-fields.ensures (λ fresh. finish (after (after (start _ fresh) c.in_ok-require_explicit_policy.ensures) c.in_ok-inhibit_policy_mapping.ensures) c.in_ok-end.ensures refl)
