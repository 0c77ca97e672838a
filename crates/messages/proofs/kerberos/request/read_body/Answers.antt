use Rattle.std.proofs.Common.{refl}
use Rattle.der_cursor.proofs.Sequences.{after, content_first_named, finish_with, named_more, start, stops, stops_with}
use Rattle.messages.specs.Kerberos.Requests.{PassedFields}
use Rattle.messages.proofs.kerberos.request.read_body.Goals as goal

pub returns-in_err-request : goal.returns-in_err-request
returns-in_err-request c = λ fresh. stops _ (start _ fresh) (named_more _ c.read_ticket.ensures c.in_err-request.ensures) c.from_residual.ensures.1

pub returns-in_err-named : goal.returns-in_err-named
returns-in_err-named c = λ fresh. stops_with _ (after (start _ fresh) (named_more _ c.read_ticket.ensures c.in_ok-request.ensures))
    (content_first_named _ PassedFields c.read_ticket.new.body c.end_body.ensures c.in_err-named.ensures) c.from_residual-in_err-named.ensures.1

pub returns : goal.returns
returns c = λ fresh. finish_with (after (start _ fresh) (named_more _ c.read_ticket.ensures c.in_ok-request.ensures))
    (content_first_named _ PassedFields c.read_ticket.new.body c.end_body.ensures c.in_ok-named.ensures) refl
