use Rattle.std.proofs.Common.{refl}
use Rattle.der_cursor.proofs.FormatLaws.{inside, value_read}
use Rattle.der_cursor.proofs.Sequences.{after, finish, left_over, refused_open, start, stops}
use Rattle.messages.proofs.snmp.value.read_binding.Goals as goal

pub returns-in_err-binding : goal.returns-in_err-binding
returns-in_err-binding c = refused_open _ _ c.in_err-binding.ensures c.from_residual.ensures.1

pub returns-in_err-name : goal.returns-in_err-name
returns-in_err-name c = inside _ _ c.in_ok-binding.ensures (λ fresh. stops _ (start _ fresh) (value_read _ c.in_err-name.ensures) c.from_residual-in_err-name.ensures.1)

pub returns-in_err-value : goal.returns-in_err-value
returns-in_err-value c = inside _ _ c.in_ok-binding.ensures (λ fresh. stops _ (after (start _ fresh) (value_read _ c.in_ok-name.ensures)) (c.in_err-value.ensures) c.from_residual-in_err-value.ensures.1)

pub returns-in_err-end : goal.returns-in_err-end
returns-in_err-end c = inside _ _ c.in_ok-binding.ensures (λ fresh. left_over _ (after (after (start _ fresh) (value_read _ c.in_ok-name.ensures)) (c.in_ok-value.ensures)) (c.in_err-end.ensures.0) c.from_residual-in_err-end.ensures.1)

pub returns : goal.returns
returns c = inside _ _ c.in_ok-binding.ensures (λ fresh. finish (after (after (start _ fresh) (value_read _ c.in_ok-name.ensures)) (c.in_ok-value.ensures)) (c.in_ok-end.ensures) refl)
