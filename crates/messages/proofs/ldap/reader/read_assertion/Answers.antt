use Rattle.std.proofs.Common.{refl}
use Rattle.der_cursor.proofs.FormatLaws.{value_read}
use Rattle.der_cursor.proofs.Sequences.{after, finish_ignored, inside_named, named, start, stops, unopened_named}
use Rattle.messages.proofs.ldap.reader.read_assertion.Goals as goal

pub returns-in_err-fields : goal.returns-in_err-fields
returns-in_err-fields c = unopened_named _ _ _ _ c.open_sequence.ensures c.in_err-fields.ensures c.from_residual.ensures.1

pub returns-in_err-attribute : goal.returns-in_err-attribute
returns-in_err-attribute c = inside_named _ _ _ _ c.open_sequence.ensures c.in_ok-fields.ensures (λ fresh. stops _ (start _ fresh)
    (named _ (value_read _ c.octets.ensures) c.in_err-attribute.ensures) c.from_residual-in_err-attribute.ensures.1)

pub returns-in_err-value : goal.returns-in_err-value
returns-in_err-value c = inside_named _ _ _ _ c.open_sequence.ensures c.in_ok-fields.ensures (λ fresh. stops _ (after (start _ fresh)
    (named _ (value_read _ c.octets.ensures) c.in_ok-attribute.ensures)) (named _ (value_read _ c.octets-2.ensures) c.in_err-value.ensures) c.from_residual-in_err-value.ensures.1)

pub returns : goal.returns
returns c = inside_named _ _ _ _ c.open_sequence.ensures c.in_ok-fields.ensures (λ fresh. finish_ignored (after (after (start _ fresh)
    (named _ (value_read _ c.octets.ensures) c.in_ok-attribute.ensures)) (named _ (value_read _ c.octets-2.ensures) c.in_ok-value.ensures)) refl)
