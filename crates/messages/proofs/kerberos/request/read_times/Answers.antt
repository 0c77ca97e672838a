use Rattle.std.proofs.Common.{refl}
use Rattle.der_cursor.proofs.Sequences.{named}
use Rattle.der_cursor.proofs.FieldLaws.{gives, got, got_then, refused, refused_first, refused_then, returned_refusal}
use Rattle.messages.proofs.kerberos.request.read_times.Goals as goal

pub returns-in_err-from : goal.returns-in_err-from
returns-in_err-from c = returned_refusal _ (refused_first _ (refused (named _ c.read_time.ensures c.in_err-from.ensures))) c.from_residual.ensures.1

pub returns-in_err-till : goal.returns-in_err-till
returns-in_err-till c = returned_refusal _ (refused_then (got (named _ c.read_time.ensures c.in_ok-from.ensures)) (refused_first _ (refused (named _ c.read_till.ensures c.in_err-till.ensures))))
    c.from_residual-in_err-till.ensures.1

pub returns-in_err-renewable_till : goal.returns-in_err-renewable_till
returns-in_err-renewable_till c = returned_refusal _ (refused_then (got (named _ c.read_time.ensures c.in_ok-from.ensures)) (refused_then (got (named _ c.read_till.ensures c.in_ok-till.ensures))
    (refused (named _ c.read_time-2.ensures c.in_err-renewable_till.ensures)))) c.from_residual-in_err-renewable_till.ensures.1

pub returns : goal.returns
returns c = gives refl (got_then (got (named _ c.read_time.ensures c.in_ok-from.ensures)) (got_then (got (named _ c.read_till.ensures c.in_ok-till.ensures)) (got
    (named _ c.read_time-2.ensures c.in_ok-renewable_till.ensures))))
