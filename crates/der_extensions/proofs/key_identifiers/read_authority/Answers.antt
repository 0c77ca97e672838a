use Rattle.std.proofs.Common.{refl}
use Rattle.der_cursor.proofs.FormatLaws.{inside}
use Rattle.der_cursor.proofs.Sequences.{after, finish, left_over, refused_open, start, stops}
use Rattle.der_extensions.proofs.key_identifiers.read_authority.Goals as goal

pub returns-in_err-fields : goal.returns-in_err-fields
returns-in_err-fields c = refused_open _ _ c.in_err-fields.ensures c.from_residual.ensures.1

pub returns-in_err-key_identifier : goal.returns-in_err-key_identifier
returns-in_err-key_identifier c = inside _ _ c.in_ok-fields.ensures (λ fresh. stops _ (start _ fresh) (c.in_err-key_identifier.ensures) c.from_residual-in_err-key_identifier.ensures.1)

pub returns-in_err-authority_cert_issuer : goal.returns-in_err-authority_cert_issuer
returns-in_err-authority_cert_issuer c = inside _ _ c.in_ok-fields.ensures (λ fresh. stops _ (after (start _ fresh) (c.in_ok-key_identifier.ensures)) (c.in_err-authority_cert_issuer.ensures) c.from_residual-in_err-authority_cert_issuer.ensures.1)

pub returns-in_err-authority_cert_serial_number : goal.returns-in_err-authority_cert_serial_number
returns-in_err-authority_cert_serial_number c = inside _ _ c.in_ok-fields.ensures (λ fresh. stops _ (after (after (start _ fresh) (c.in_ok-key_identifier.ensures)) (c.in_ok-authority_cert_issuer.ensures)) (c.in_err-authority_cert_serial_number.ensures) c.from_residual-in_err-authority_cert_serial_number.ensures.1)

pub returns-in_err-end : goal.returns-in_err-end
returns-in_err-end c = inside _ _ c.in_ok-fields.ensures (λ fresh. left_over _ (after (after (after (start _ fresh) (c.in_ok-key_identifier.ensures)) (c.in_ok-authority_cert_issuer.ensures)) (c.in_ok-authority_cert_serial_number.ensures)) (c.in_err-end.ensures.0) c.from_residual-in_err-end.ensures.1)

pub returns : goal.returns
returns c = inside _ _ c.in_ok-fields.ensures (λ fresh. finish (after (after (after (start _ fresh) (c.in_ok-key_identifier.ensures)) (c.in_ok-authority_cert_issuer.ensures)) (c.in_ok-authority_cert_serial_number.ensures)) (c.in_ok-end.ensures) refl)
