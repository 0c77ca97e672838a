use Rattle.std.proofs.Common.{refl}
use Rattle.der_cursor.proofs.FormatLaws.{value_read}
use Rattle.der_cursor.proofs.Sequences.{after, content_named_in, finish_with, named, named_in, start_as, stops, stops_never, stops_with}
use Rattle.der_cursor.specs.Formats.{Others}
use Rattle.messages.proofs.ldap.reader.read_modification.Goals as goal

pub returns-in_err-name : goal.returns-in_err-name
returns-in_err-name c = λ fresh. stops_never _ (start_as _ _ fresh)
    (named _ (value_read _ c.octets.ensures) c.in_err-name.ensures) c.from_residual.ensures.1

pub returns-in_err-changes : goal.returns-in_err-changes
returns-in_err-changes c = λ fresh. stops _ (after (start_as _ _ fresh) (named _ (value_read _ c.octets.ensures) c.in_ok-name.ensures))
    (named_in _ c.read_changes.ensures c.in_err-changes.ensures) c.from_residual-in_err-changes.ensures.1

pub returns-in_err-named : goal.returns-in_err-named
returns-in_err-named c = λ fresh. stops_with _ (after (after (start_as _ _ fresh) (named _ (value_read _ c.octets.ensures) c.in_ok-name.ensures)) (named_in _ c.read_changes.ensures c.in_ok-changes.ensures))
    (content_named_in _ Others c.read_changes.new.list c.pass_over.ensures c.in_err-named.ensures) c.from_residual-in_err-named.ensures.1

pub returns : goal.returns
returns c = λ fresh. finish_with (after (after (start_as _ _ fresh) (named _ (value_read _ c.octets.ensures) c.in_ok-name.ensures)) (named_in _ c.read_changes.ensures c.in_ok-changes.ensures))
    (content_named_in _ Others c.read_changes.new.list c.pass_over.ensures c.in_ok-named.ensures) refl
