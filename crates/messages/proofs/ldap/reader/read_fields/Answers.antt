use Rattle.std.proofs.Common.{refl}
use Rattle.der_cursor.proofs.FormatLaws.{value_read}
use Rattle.der_cursor.proofs.Sequences.{after, content_named_in, finish_with, named, named_in, start, stops, stops_never, stops_with}
use Rattle.der_cursor.specs.Formats.{Others}
use Rattle.messages.proofs.ldap.reader.read_fields.Goals as goal

pub returns-in_err-id : goal.returns-in_err-id
returns-in_err-id c = λ fresh. stops_never _ (start c.args.fields fresh)
    (named _ (value_read _ c.u32.ensures) c.in_err-id.ensures) c.from_residual.ensures.1

pub returns-in_err-operation : goal.returns-in_err-operation
returns-in_err-operation c = λ fresh. stops _ (after (start c.args.fields fresh) (named _ (value_read _ c.u32.ensures) c.in_ok-id.ensures))
    (c.in_err-operation.ensures) c.from_residual-in_err-operation.ensures.1

pub returns-in_err-controls : goal.returns-in_err-controls
returns-in_err-controls c = λ fresh. stops _ (after (after (start c.args.fields fresh) (named _ (value_read _ c.u32.ensures) c.in_ok-id.ensures)) (c.in_ok-operation.ensures))
    (named_in _ c.read_controls.ensures c.in_err-controls.ensures) c.from_residual-in_err-controls.ensures.1

pub returns-in_err-named : goal.returns-in_err-named
returns-in_err-named c = λ fresh. stops_with _ (after (after (after (start c.args.fields fresh) (named _ (value_read _ c.u32.ensures) c.in_ok-id.ensures)) (c.in_ok-operation.ensures)) (named_in _ c.read_controls.ensures c.in_ok-controls.ensures))
    (content_named_in _ Others c.read_controls.new.fields c.pass_over.ensures c.in_err-named.ensures) c.from_residual-in_err-named.ensures.1

pub returns : goal.returns
returns c = λ fresh. finish_with (after (after (after (start c.args.fields fresh) (named _ (value_read _ c.u32.ensures) c.in_ok-id.ensures)) (c.in_ok-operation.ensures)) (named_in _ c.read_controls.ensures c.in_ok-controls.ensures))
    (content_named_in _ Others c.read_controls.new.fields c.pass_over.ensures c.in_ok-named.ensures) refl
