use Rattle.std.proofs.Common.{refl}
use Rattle.der_values.specs.Kinds.{texts}
use Rattle.der_cursor.proofs.FormatLaws.{inside, value_read}
use Rattle.der_cursor.proofs.Sequences.{after, finish, left_over, refused_open, start, stops}
use Rattle.der_extensions.proofs.organization_identifier.read_identifier.Goals as goal

pub returns-in_err-fields : goal.returns-in_err-fields
returns-in_err-fields c = refused_open _ _ c.in_err-fields.ensures c.from_residual.ensures.1

pub returns-in_err-registration_scheme_identifier : goal.returns-in_err-registration_scheme_identifier
returns-in_err-registration_scheme_identifier c = inside _ _ c.in_ok-fields.ensures (λ fresh. stops _ (start _ fresh) c.in_err-registration_scheme_identifier.ensures c.from_residual-in_err-registration_scheme_identifier.ensures.1)

pub returns-in_err-registration_country : goal.returns-in_err-registration_country
returns-in_err-registration_country c = inside _ _ c.in_ok-fields.ensures (λ fresh. stops _ (after (start _ fresh) c.in_ok-registration_scheme_identifier.ensures) c.in_err-registration_country.ensures c.from_residual-in_err-registration_country.ensures.1)

pub returns-in_err-registration_state_or_province : goal.returns-in_err-registration_state_or_province
returns-in_err-registration_state_or_province c = inside _ _ c.in_ok-fields.ensures (λ fresh. stops _ (after (after (start _ fresh) c.in_ok-registration_scheme_identifier.ensures) c.in_ok-registration_country.ensures) c.in_err-registration_state_or_province.ensures c.from_residual-in_err-registration_state_or_province.ensures.1)

pub returns-in_err-registration_reference : goal.returns-in_err-registration_reference
returns-in_err-registration_reference c = inside _ _ c.in_ok-fields.ensures (λ fresh. stops _ (after (after (after (start _ fresh) c.in_ok-registration_scheme_identifier.ensures) c.in_ok-registration_country.ensures) c.in_ok-registration_state_or_province.ensures) (value_read (λ r. texts 12) c.in_err-registration_reference.ensures) c.from_residual-in_err-registration_reference.ensures.1)

pub returns-in_err-end : goal.returns-in_err-end
returns-in_err-end c = inside _ _ c.in_ok-fields.ensures (λ fresh. left_over _ (after (after (after (after (start _ fresh) c.in_ok-registration_scheme_identifier.ensures) c.in_ok-registration_country.ensures) c.in_ok-registration_state_or_province.ensures) (value_read (λ r. texts 12) c.in_ok-registration_reference.ensures)) c.in_err-end.ensures.0 c.from_residual-in_err-end.ensures.1)

pub returns : goal.returns
returns c = inside _ _ c.in_ok-fields.ensures (λ fresh. finish (after (after (after (after (start _ fresh) c.in_ok-registration_scheme_identifier.ensures) c.in_ok-registration_country.ensures) c.in_ok-registration_state_or_province.ensures) (value_read (λ r. texts 12) c.in_ok-registration_reference.ensures)) c.in_ok-end.ensures refl)
