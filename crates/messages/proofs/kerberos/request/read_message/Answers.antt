use Rattle.std.proofs.Common.{refl}
use Rattle.der_base.specs.declared.header.Class.TheVariants.{ContextSpecific}
use Rattle.der_cursor.proofs.FormatLaws.{tagged_octets}
use Rattle.der_cursor.proofs.Sequences.{after, named, rest_read, start, stops_never}
use Rattle.messages.specs.Kerberos.Requests.{BodyFields, body_of}
use Rattle.der_cursor.proofs.FieldLaws.{passed}
use Rattle.der_cursor.proofs.OpenedLaws.{in_tag, not_within_named, within_named}
use Rattle.messages.proofs.kerberos.request.read_message.Goals as goal

pub returns-in_err-named : goal.returns-in_err-named
returns-in_err-named c = λ fresh. stops_never _ (start _ fresh) (named _ c.check_number.ensures c.in_err-named.ensures) c.from_residual.ensures.1

pub returns-in_err-named-2 : goal.returns-in_err-named-2
returns-in_err-named-2 c = λ fresh. stops_never _ (after (start _ fresh) (named _ c.check_number.ensures c.in_ok-named.ensures)) (named _ c.check_number-2.ensures c.in_err-named-2.ensures)
    c.from_residual-in_err-named-2.ensures.1

pub returns-in_err-named-3 : goal.returns-in_err-named-3
returns-in_err-named-3 c = λ fresh. stops_never _ (after (after (start _ fresh) (named _ c.check_number.ensures c.in_ok-named.ensures)) (named _ c.check_number-2.ensures c.in_ok-named-2.ensures))
    (passed (named _ (tagged_octets 3 c.open_tagged.ensures) c.in_err-named-3.ensures)) c.from_residual-in_err-named-3.ensures.1

pub returns-in_err-body : goal.returns-in_err-body
returns-in_err-body c = λ fresh. rest_read {part = body_of} _ (λ x. refl) (after (after (after (start _ fresh) (named _ c.check_number.ensures c.in_ok-named.ensures))
    (named _ c.check_number-2.ensures c.in_ok-named-2.ensures))
    (passed (named _ (tagged_octets 3 c.open_tagged.ensures) c.in_ok-named-3.ensures))) (not_within_named (in_tag ContextSpecific 4 BodyFields) _ _ c.open_last.ensures c.in_err-body.ensures
    c.from_residual-in_err-body.ensures.1)

pub returns : goal.returns
returns c = λ fresh. rest_read {part = body_of} _ (λ x. refl) (after (after (after (start _ fresh) (named _ c.check_number.ensures c.in_ok-named.ensures))
    (named _ c.check_number-2.ensures c.in_ok-named-2.ensures))
    (passed (named _ (tagged_octets 3 c.open_tagged.ensures) c.in_ok-named-3.ensures)))
    (within_named (in_tag ContextSpecific 4 BodyFields) _ _ _ c.open_last.ensures c.in_ok-body.ensures c.read_body.ensures)
