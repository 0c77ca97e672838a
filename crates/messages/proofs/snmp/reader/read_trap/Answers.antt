use Rattle.std.proofs.Common.{FitsSigned, ap, rules, w32}
use Rattle.std.proofs.lemmas.Int.{to_z-of_z}
use Rattle.der_cursor.proofs.FormatLaws.{value_read}
use Rattle.der_cursor.proofs.Sequences.{after, ends_named, finish, left_over, named, named_in, start_as, stops, stops_never}
use Rattle.messages.specs.Snmp.Messages.{trap}
use Rattle.messages.proofs.SnmpLaws.MessageLaws.{same_first, same_second}
use Rattle.messages.proofs.snmp.reader.read_trap.Goals as goal

pub returns-in_err-named : goal.returns-in_err-named
returns-in_err-named c = λ fresh. stops_never _ (start_as _ _ fresh)
    (named _ (value_read _ c.oid.ensures) c.in_err-named.ensures) c.from_residual.ensures.1

pub returns-in_err-named-2 : goal.returns-in_err-named-2
returns-in_err-named-2 c = λ fresh. stops_never _ (after (start_as _ _ fresh) (named _ (value_read _ c.oid.ensures) c.in_ok-named.ensures))
    (named _ c.read_address.ensures c.in_err-named-2.ensures) c.from_residual-in_err-named-2.ensures.1

pub returns-in_err-named-3 : goal.returns-in_err-named-3
returns-in_err-named-3 c = λ fresh. stops_never _ (after (after (start_as _ _ fresh) (named _ (value_read _ c.oid.ensures) c.in_ok-named.ensures)) (named _ c.read_address.ensures c.in_ok-named-2.ensures))
    (named _ (value_read _ c.u32.ensures) c.in_err-named-3.ensures) c.from_residual-in_err-named-3.ensures.1

pub returns-in_err-named-4 : goal.returns-in_err-named-4
returns-in_err-named-4 c = λ fresh. stops_never _ (after (after (after (start_as _ _ fresh) (named _ (value_read _ c.oid.ensures) c.in_ok-named.ensures)) (named _ c.read_address.ensures c.in_ok-named-2.ensures)) (named _ (value_read _ c.u32.ensures) c.in_ok-named-3.ensures))
    (named _ (value_read _ c.i32.ensures) c.in_err-named-4.ensures) c.from_residual-in_err-named-4.ensures.1

pub returns-in_err-named-5 : goal.returns-in_err-named-5
returns-in_err-named-5 c = λ fresh. stops_never _ (after (after (after (after (start_as _ _ fresh) (named _ (value_read _ c.oid.ensures) c.in_ok-named.ensures)) (named _ c.read_address.ensures c.in_ok-named-2.ensures)) (named _ (value_read _ c.u32.ensures) c.in_ok-named-3.ensures)) (named _ (value_read _ c.i32.ensures) c.in_ok-named-4.ensures))
    (named _ c.read_time_stamp.ensures c.in_err-named-5.ensures) c.from_residual-in_err-named-5.ensures.1

pub returns-in_err-named-6 : goal.returns-in_err-named-6
returns-in_err-named-6 c = λ fresh. stops _ (after (after (after (after (after (start_as _ _ fresh) (named _ (value_read _ c.oid.ensures) c.in_ok-named.ensures)) (named _ c.read_address.ensures c.in_ok-named-2.ensures)) (named _ (value_read _ c.u32.ensures) c.in_ok-named-3.ensures)) (named _ (value_read _ c.i32.ensures) c.in_ok-named-4.ensures)) (named _ c.read_time_stamp.ensures c.in_ok-named-5.ensures))
    (named_in _ c.read_bindings.ensures c.in_err-named-6.ensures) c.from_residual-in_err-named-6.ensures.1

pub returns-in_err-named-7 : goal.returns-in_err-named-7
returns-in_err-named-7 c = λ fresh. left_over _ (after (after (after (after (after (after (start_as _ _ fresh) (named _ (value_read _ c.oid.ensures) c.in_ok-named.ensures)) (named _ c.read_address.ensures c.in_ok-named-2.ensures)) (named _ (value_read _ c.u32.ensures) c.in_ok-named-3.ensures)) (named _ (value_read _ c.i32.ensures) c.in_ok-named-4.ensures)) (named _ c.read_time_stamp.ensures c.in_ok-named-5.ensures)) (named_in _ c.read_bindings.ensures c.in_ok-named-6.ensures))
    (ends_named _ _ _ _ _ c.end.ensures c.in_err-named-7.ensures) c.from_residual-in_err-named-7.ensures.1

pub returns : goal.returns
returns c = λ fresh. finish (after (after (after (after (after (after (start_as _ _ fresh) (named _ (value_read _ c.oid.ensures) c.in_ok-named.ensures)) (named _ c.read_address.ensures c.in_ok-named-2.ensures)) (named _ (value_read _ c.u32.ensures) c.in_ok-named-3.ensures)) (named _ (value_read _ c.i32.ensures) c.in_ok-named-4.ensures)) (named _ c.read_time_stamp.ensures c.in_ok-named-5.ensures)) (named_in _ c.read_bindings.ensures c.in_ok-named-6.ensures))
    (ends_named _ _ _ _ _ c.end.ensures c.in_ok-named-7.ensures)
    (let f : FitsSigned w32 c.in_ok-named-4.field-0 = search rules in ap trap (same_second (same_second (same_second (same_first (to_z-of_z w32 _ f))))))
