use Rattle.std.proofs.Common.{◌≡◌, ◌∙◌, true, false, refl, sym}
use Rattle.std.proofs.lemmas.Result.{err_from_is_err_and}
use Rattle.der_cursor.proofs.FormatLaws.{value_read}
use Rattle.der_cursor.proofs.Sequences.{after, ends_named, finish, left_over, named, start, stops, stops_never}
use Rattle.messages.specs.declared.snmp.message.Message.{Message as MessageStruct}
use Rattle.messages.proofs.SnmpLaws.FieldLaws.{of_version, stops_before_version, wrong_version}
use Rattle.messages.proofs.snmp.reader.read_fields.Goals as goal

pub returns-in_err-version : goal.returns-in_err-version
returns-in_err-version c = stops_before_version c.args.fields _ _ c.from_residual.ensures.1 (λ fresh. stops_never _ (start c.args.fields fresh) (named _ c.read_version.ensures c.in_err-version.ensures) c.from_residual.ensures.1)

pub returns-in_err-community : goal.returns-in_err-community
returns-in_err-community c = stops_before_version c.args.fields _ _ c.from_residual-in_err-community.ensures.1 (λ fresh. stops_never _ (after (start c.args.fields fresh) (named _ c.read_version.ensures c.in_ok-version.ensures)) (named _ (value_read _ c.octets.ensures) c.in_err-community.ensures) c.from_residual-in_err-community.ensures.1)

pub returns-in_err-pdu : goal.returns-in_err-pdu
returns-in_err-pdu c = stops_before_version c.args.fields _ _ c.from_residual-in_err-pdu.ensures.1 (λ fresh. stops _ (after (after (start c.args.fields fresh) (named _ c.read_version.ensures c.in_ok-version.ensures)) (named _ (value_read _ c.octets.ensures) c.in_ok-community.ensures)) c.in_err-pdu.ensures c.from_residual-in_err-pdu.ensures.1)

pub returns-in_err-named : goal.returns-in_err-named
returns-in_err-named c = stops_before_version c.args.fields _ _ c.from_residual-in_err-named.ensures.1 (λ fresh. left_over _ (after (after (after (start c.args.fields fresh) (named _ c.read_version.ensures c.in_ok-version.ensures)) (named _ (value_read _ c.octets.ensures) c.in_ok-community.ensures)) c.in_ok-pdu.ensures) (ends_named _ _ _ _ _ c.end.ensures c.in_err-named.ensures) c.from_residual-in_err-named.ensures.1)

pub returns-then-not-has : goal.returns-then-not-has
returns-then-not-has c =
    let q = err_from_is_err_and c.named-then-not-has.result c.named-then-not-has.ensures in
    let x : MessageStruct = record { version = c.in_ok-version.version; community = c.in_ok-community.community; pdu = c.in_ok-pdu.pdu } in
    rw q.1 (wrong_version c.args.fields x (λ h.
    let m : c.has.result ≡ true = c.has.ensures ∙ h in
    let n : c.has.result ≡ false = c.if-not-has.true in
    absurd cc) (λ fresh. finish (after (after (after (start c.args.fields fresh) (named _ c.read_version.ensures c.in_ok-version.ensures)) (named _ (value_read _ c.octets.ensures) c.in_ok-community.ensures)) c.in_ok-pdu.ensures) (ends_named _ _ _ _ _ c.end.ensures c.in_ok-named.ensures) refl))

pub returns : goal.returns
returns c =
    of_version c.args.fields (sym c.has.ensures ∙ c.if-not-has.false) (λ fresh. finish (after (after (after (start c.args.fields fresh) (named _ c.read_version.ensures c.in_ok-version.ensures)) (named _ (value_read _ c.octets.ensures) c.in_ok-community.ensures)) c.in_ok-pdu.ensures) (ends_named _ _ _ _ _ c.end.ensures c.in_ok-named.ensures) refl)
