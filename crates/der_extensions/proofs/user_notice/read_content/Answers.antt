use Rattle.std.proofs.Common.{refl}
use Rattle.der_cursor.proofs.Sequences.{after, finish, left_over, start, stops}
use Rattle.der_extensions.proofs.user_notice.read_content.Goals as goal

pub returns-in_err-reference : goal.returns-in_err-reference
returns-in_err-reference c = λ fresh. stops _ (start _ fresh) c.in_err-reference.ensures c.from_residual.ensures.1

pub returns-in_err-explicit_text : goal.returns-in_err-explicit_text
returns-in_err-explicit_text c = λ fresh. stops _ (after (start _ fresh) c.in_ok-reference.ensures) c.in_err-explicit_text.ensures c.from_residual-in_err-explicit_text.ensures.1

pub returns-in_err-end : goal.returns-in_err-end
returns-in_err-end c = λ fresh. left_over _ (after (after (start _ fresh) c.in_ok-reference.ensures) c.in_ok-explicit_text.ensures) c.in_err-end.ensures.0 c.from_residual-in_err-end.ensures.1

pub returns : goal.returns
returns c = λ fresh. finish (after (after (start _ fresh) c.in_ok-reference.ensures) c.in_ok-explicit_text.ensures) c.in_ok-end.ensures refl
