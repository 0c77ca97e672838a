use Rattle.std.proofs.Common.{refl}
use Rattle.der_cursor.proofs.FormatLaws.{value_read}
use Rattle.der_cursor.proofs.Sequences.{after, content_named_in, finish_with, named, start_as, stops_never, stops_with}
use Rattle.der_cursor.specs.Formats.{Others}
use Rattle.der_cursor.proofs.FieldLaws.{passed}
use Rattle.messages.proofs.ldap.reader.read_bind.Goals as goal

pub returns-in_err-named : goal.returns-in_err-named
returns-in_err-named c = λ fresh. stops_never _ (start_as _ _ fresh) (passed (named _ (value_read _ c.u32.ensures) c.in_err-named.ensures)) c.from_residual.ensures.1

pub returns-in_err-name : goal.returns-in_err-name
returns-in_err-name c = λ fresh. stops_never _ (after (start_as _ _ fresh) (passed (named _ (value_read _ c.u32.ensures) c.in_ok-named.ensures)))
    (named _ (value_read _ c.octets.ensures) c.in_err-name.ensures) c.from_residual-in_err-name.ensures.1

pub returns-in_err-named-2 : goal.returns-in_err-named-2
returns-in_err-named-2 c = λ fresh. stops_never _ (after (after (start_as _ _ fresh) (passed (named _ (value_read _ c.u32.ensures) c.in_ok-named.ensures)))
    (named _ (value_read _ c.octets.ensures) c.in_ok-name.ensures)) (named _ c.read_choice.ensures c.in_err-named-2.ensures) c.from_residual-in_err-named-2.ensures.1

pub returns-in_err-named-3 : goal.returns-in_err-named-3
returns-in_err-named-3 c = λ fresh. stops_with _ (after (after (after (start_as _ _ fresh) (passed (named _ (value_read _ c.u32.ensures) c.in_ok-named.ensures)))
    (named _ (value_read _ c.octets.ensures) c.in_ok-name.ensures)) (named _ c.read_choice.ensures c.in_ok-named-2.ensures))
    (content_named_in _ Others c.read_choice.new.list c.pass_over.ensures c.in_err-named-3.ensures) c.from_residual-in_err-named-3.ensures.1

pub returns : goal.returns
returns c = λ fresh. finish_with (after (after (after (start_as _ _ fresh) (passed (named _ (value_read _ c.u32.ensures) c.in_ok-named.ensures)))
    (named _ (value_read _ c.octets.ensures) c.in_ok-name.ensures)) (named _ c.read_choice.ensures c.in_ok-named-2.ensures))
    (content_named_in _ Others c.read_choice.new.list c.pass_over.ensures c.in_ok-named-3.ensures) refl
