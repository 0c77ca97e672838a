use Rattle.std.proofs.Common.{refl}
use Rattle.der_cursor.proofs.FormatLaws.{inside, value_read}
use Rattle.der_cursor.proofs.Sequences.{after, finish_with, refused_open, start_as, stops, stops_never, stops_with}
use Rattle.messages.proofs.ldap.items.read_attribute.Goals as goal

pub returns-in_err-fields : goal.returns-in_err-fields
returns-in_err-fields c = refused_open _ _ c.in_err-fields.ensures c.from_residual.ensures.1

pub returns-in_err-name : goal.returns-in_err-name
returns-in_err-name c = inside _ _ c.in_ok-fields.ensures (λ fresh. stops_never _ (start_as _ _ fresh)
    (value_read _ c.in_err-name.ensures) c.from_residual-in_err-name.ensures.1)

pub returns-in_err-values : goal.returns-in_err-values
returns-in_err-values c = inside _ _ c.in_ok-fields.ensures (λ fresh. stops _ (after (start_as _ _ fresh) (value_read _ c.in_ok-name.ensures))
    (c.in_err-values.ensures) c.from_residual-in_err-values.ensures.1)

pub returns-in_err-pass_over : goal.returns-in_err-pass_over
returns-in_err-pass_over c = inside _ _ c.in_ok-fields.ensures (λ fresh. stops_with _ (after (after (start_as _ _ fresh) (value_read _ c.in_ok-name.ensures)) (c.in_ok-values.ensures))
    c.in_err-pass_over.ensures c.from_residual-in_err-pass_over.ensures.1)

pub returns : goal.returns
returns c = inside _ _ c.in_ok-fields.ensures (λ fresh. finish_with (after (after (start_as _ _ fresh) (value_read _ c.in_ok-name.ensures)) (c.in_ok-values.ensures))
    c.in_ok-pass_over.ensures refl)
