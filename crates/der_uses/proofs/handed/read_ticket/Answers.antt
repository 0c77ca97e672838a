use Rattle.std.proofs.Common.{refl}
use Rattle.der_parser.proofs.FormatLaws.{inside, value_read}
use Rattle.der_parser.proofs.FormatSequences.{after, finish_with, refused_open, start, stops, stops_with}
use Rattle.der_uses.proofs.TicketLaws.{last_read, number_read}
use Rattle.der_uses.proofs.UseLaws.{begins_read}
use Rattle.der_uses.proofs.handed.read_ticket.Goals as goal

pub returns-in_err-fields : goal.returns-in_err-fields
returns-in_err-fields c = begins_read {d = c.open_sequence.new.self} c.new.ensures _ (refused_open _ _ c.in_err-fields.ensures c.from_residual.ensures.1)

pub returns-in_err-identifier : goal.returns-in_err-identifier
returns-in_err-identifier c = begins_read {d = c.open_sequence.new.self} c.new.ensures _ (inside _ _ c.in_ok-fields.ensures (λ fresh. stops _ (start _ fresh) (value_read _ c.in_err-identifier.ensures) c.from_residual-in_err-identifier.ensures.1))

pub returns-in_err-flags : goal.returns-in_err-flags
returns-in_err-flags c = begins_read {d = c.open_sequence.new.self} c.new.ensures _ (inside _ _ c.in_ok-fields.ensures (λ fresh. stops _ (after (start _ fresh) (value_read _ c.in_ok-identifier.ensures)) (value_read _ c.in_err-flags.ensures) c.from_residual-in_err-flags.ensures.1))

pub returns-in_err-number : goal.returns-in_err-number
returns-in_err-number c = begins_read {d = c.open_sequence.new.self} c.new.ensures _ (inside _ _ c.in_ok-fields.ensures (λ fresh. stops _ (after (after (start _ fresh) (value_read _ c.in_ok-identifier.ensures)) (value_read _ c.in_ok-flags.ensures)) (number_read _ c.in_err-number.ensures) c.from_residual-in_err-number.ensures.1))

pub returns-in_err-last : goal.returns-in_err-last
returns-in_err-last c = begins_read {d = c.open_sequence.new.self} c.new.ensures _ (inside _ _ c.in_ok-fields.ensures (λ fresh. stops_with _ (after (after (after (start _ fresh) (value_read _ c.in_ok-identifier.ensures)) (value_read _ c.in_ok-flags.ensures)) (number_read _ c.in_ok-number.ensures)) (last_read _ _ c.in_err-last.ensures) c.from_residual-in_err-last.ensures.1))

pub returns : goal.returns
returns c = begins_read {d = c.open_sequence.new.self} c.new.ensures _ (inside _ _ c.in_ok-fields.ensures (λ fresh. finish_with (after (after (after (start _ fresh) (value_read _ c.in_ok-identifier.ensures)) (value_read _ c.in_ok-flags.ensures)) (number_read _ c.in_ok-number.ensures)) (last_read _ _ c.in_ok-last.ensures) refl))
