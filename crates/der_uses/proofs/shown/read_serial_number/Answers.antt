use Rattle.std.proofs.Common.{refl, pos}
use Rattle.der_parser.specs.Formats.{Number, Required, Sequence}
use Rattle.der_parser.specs.Numbers.{unsigned}
use Rattle.der_parser.proofs.FormatLaws.{inside, tagged_octets, value_read}
use Rattle.der_parser.proofs.FormatSequences.{after, first_read, refused_open, rest_read, start_as, stops}
use Rattle.der_uses.specs.Uses.{NumberFields}
use Rattle.der_uses.proofs.UseLaws.{begins_read}
use Rattle.der_uses.proofs.shown.read_serial_number.Goals as goal

pub returns-in_err-open_sequence : goal.returns-in_err-open_sequence
returns-in_err-open_sequence c = begins_read {d = c.open_sequence.new.self} c.new.ensures _ (refused_open _ _ c.in_err-open_sequence.ensures c.from_residual.ensures.1)

pub returns-in_err-fields : goal.returns-in_err-fields
returns-in_err-fields c =
    begins_read {d = c.open_sequence.new.self} c.new.ensures _ (inside _ _ c.in_ok-open_sequence.ensures (first_read (Required (Sequence NumberFields)) {view = pos} {d = c.open_sequence-2.new.self} _
    (refused_open _ _ c.in_err-fields.ensures c.from_residual-in_err-fields.ensures.1)))

pub returns-in_err-open_tagged : goal.returns-in_err-open_tagged
returns-in_err-open_tagged c =
    begins_read {d = c.open_sequence.new.self} c.new.ensures _ (inside _ _ c.in_ok-open_sequence.ensures (first_read (Required (Sequence NumberFields)) {view = pos} {d = c.open_sequence-2.new.self} _
    (inside _ _ c.in_ok-fields.ensures (λ fresh. stops _ (start_as _ _ fresh) (tagged_octets _ c.in_err-open_tagged.ensures) c.from_residual-in_err-open_tagged.ensures.1))))

pub returns : goal.returns
returns c =
    begins_read {d = c.open_sequence.new.self} c.new.ensures _ (inside _ _ c.in_ok-open_sequence.ensures (first_read (Required (Sequence NumberFields)) {view = pos} {d = c.open_sequence-2.new.self} _
    (inside _ _ c.in_ok-fields.ensures (λ fresh. rest_read _ (λ x. refl) (after (start_as _ _ fresh) (tagged_octets _ c.in_ok-open_tagged.ensures)) (first_read (Required (Number (unsigned 64))) _ (value_read _ c.u64.ensures))))))
