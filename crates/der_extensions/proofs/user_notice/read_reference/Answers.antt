use Rattle.std.proofs.Common.{ap}
use Rattle.der_cursor.specs.Elements.{element_of}
use Rattle.der_cursor.proofs.FormatLaws.{any_read, inside, kept_read}
use Rattle.der_cursor.proofs.Sequences.{after, finish, left_over, refused_open, start, stops}
use Rattle.der_extensions.proofs.user_notice.read_reference.Goals as goal

pub returns-in_err-parts : goal.returns-in_err-parts
returns-in_err-parts c = refused_open _ _ c.in_err-parts.ensures c.from_residual.ensures.1

pub returns-in_err-organization : goal.returns-in_err-organization
returns-in_err-organization c = inside _ _ c.in_ok-parts.ensures (λ fresh. stops _ (start _ fresh) (any_read c.in_err-organization.ensures) c.from_residual-in_err-organization.ensures.1)

pub returns-in_err-numbers : goal.returns-in_err-numbers
returns-in_err-numbers c = inside _ _ c.in_ok-parts.ensures (λ fresh. stops _ (after (start _ fresh) (any_read c.in_ok-organization.ensures)) (kept_read 16 c.in_err-numbers.ensures) c.from_residual-in_err-numbers.ensures.1)

pub returns-in_err-end : goal.returns-in_err-end
returns-in_err-end c = inside _ _ c.in_ok-parts.ensures (λ fresh. left_over _ (after (after (start _ fresh) (any_read c.in_ok-organization.ensures)) (kept_read 16 c.in_ok-numbers.ensures)) c.in_err-end.ensures.0 c.from_residual-in_err-end.ensures.1)

pub returns : goal.returns
returns c = inside _ _ c.in_ok-parts.ensures (λ fresh. finish (after (after (start _ fresh) (any_read c.in_ok-organization.ensures)) (kept_read 16 c.in_ok-numbers.ensures)) c.in_ok-end.ensures (ap (λ w. (element_of c.in_ok-organization.organization, (w, tt))) c.remaining.ensures))
