use Rattle.std.proofs.Common.{refl}
use Rattle.der_cursor.proofs.FormatLaws.{tagged_octets}
use Rattle.der_cursor.proofs.Sequences.{after, ends, start, stops}
use Rattle.der_cursor.proofs.FieldLaws.{passed}
use Rattle.messages.proofs.kerberos.request.end_body.Goals as goal

pub returns-in_err-open_tagged : goal.returns-in_err-open_tagged
returns-in_err-open_tagged c = λ fresh. stops _ (start _ fresh) (passed (tagged_octets 9 c.in_err-open_tagged.ensures)) c.from_residual.ensures.1

pub returns-in_err-open_tagged-2 : goal.returns-in_err-open_tagged-2
returns-in_err-open_tagged-2 c = λ fresh. stops _ (after (start _ fresh) (passed (tagged_octets 9 c.in_ok-open_tagged.ensures))) (passed (tagged_octets 10 c.in_err-open_tagged-2.ensures))
    c.from_residual-in_err-open_tagged-2.ensures.1

pub returns-in_err-open_tagged-3 : goal.returns-in_err-open_tagged-3
returns-in_err-open_tagged-3 c = λ fresh. stops _ (after (after (start _ fresh) (passed (tagged_octets 9 c.in_ok-open_tagged.ensures))) (passed (tagged_octets 10 c.in_ok-open_tagged-2.ensures)))
    (passed (tagged_octets 11 c.in_err-open_tagged-3.ensures)) c.from_residual-in_err-open_tagged-3.ensures.1

pub returns : goal.returns
returns c = λ fresh. ends _ refl (after (after (after (start _ fresh) (passed (tagged_octets 9 c.in_ok-open_tagged.ensures))) (passed (tagged_octets 10 c.in_ok-open_tagged-2.ensures)))
    (passed (tagged_octets 11 c.in_ok-open_tagged-3.ensures))) c.end.ensures
