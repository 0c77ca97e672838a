use Rattle.std.proofs.Common.{refl}
use Rattle.der_cursor.proofs.FormatLaws.{value_read}
use Rattle.der_cursor.proofs.Sequences.{after, content_named_in, finish_with, named, named_in, start_as, stops, stops_never, stops_with}
use Rattle.der_cursor.specs.Formats.{Others}
use Rattle.messages.proofs.ldap.reader.read_result.Goals as goal

pub returns-in_err-code : goal.returns-in_err-code
returns-in_err-code c = λ fresh. stops_never _ (start_as _ _ fresh)
    (named _ (value_read _ c.enumerated.ensures) c.in_err-code.ensures) c.from_residual.ensures.1

pub returns-in_err-matched_name : goal.returns-in_err-matched_name
returns-in_err-matched_name c = λ fresh. stops_never _ (after (start_as _ _ fresh) (named _ (value_read _ c.enumerated.ensures) c.in_ok-code.ensures))
    (named _ (value_read _ c.octets.ensures) c.in_err-matched_name.ensures) c.from_residual-in_err-matched_name.ensures.1

pub returns-in_err-diagnostic_message : goal.returns-in_err-diagnostic_message
returns-in_err-diagnostic_message c = λ fresh. stops_never _ (after (after (start_as _ _ fresh) (named _ (value_read _ c.enumerated.ensures) c.in_ok-code.ensures)) (named _ (value_read _ c.octets.ensures) c.in_ok-matched_name.ensures))
    (named _ (value_read _ c.octets-2.ensures) c.in_err-diagnostic_message.ensures) c.from_residual-in_err-diagnostic_message.ensures.1

pub returns-in_err-referral : goal.returns-in_err-referral
returns-in_err-referral c = λ fresh. stops _ (after (after (after (start_as _ _ fresh) (named _ (value_read _ c.enumerated.ensures) c.in_ok-code.ensures)) (named _ (value_read _ c.octets.ensures) c.in_ok-matched_name.ensures)) (named _ (value_read _ c.octets-2.ensures) c.in_ok-diagnostic_message.ensures))
    (named_in _ c.read_referral.ensures c.in_err-referral.ensures) c.from_residual-in_err-referral.ensures.1

pub returns-in_err-named : goal.returns-in_err-named
returns-in_err-named c = λ fresh. stops_with _ (after (after (after (after (start_as _ _ fresh) (named _ (value_read _ c.enumerated.ensures) c.in_ok-code.ensures)) (named _ (value_read _ c.octets.ensures) c.in_ok-matched_name.ensures)) (named _ (value_read _ c.octets-2.ensures) c.in_ok-diagnostic_message.ensures)) (named_in _ c.read_referral.ensures c.in_ok-referral.ensures))
    (content_named_in _ Others c.read_referral.new.fields c.pass_over.ensures c.in_err-named.ensures) c.from_residual-in_err-named.ensures.1

pub returns : goal.returns
returns c = λ fresh. finish_with (after (after (after (after (start_as _ _ fresh) (named _ (value_read _ c.enumerated.ensures) c.in_ok-code.ensures)) (named _ (value_read _ c.octets.ensures) c.in_ok-matched_name.ensures)) (named _ (value_read _ c.octets-2.ensures) c.in_ok-diagnostic_message.ensures)) (named_in _ c.read_referral.ensures c.in_ok-referral.ensures))
    (content_named_in _ Others c.read_referral.new.fields c.pass_over.ensures c.in_ok-named.ensures) refl
