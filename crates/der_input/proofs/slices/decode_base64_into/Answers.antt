use Rattle.std.proofs.Common.{length, arith}
use Rattle.der_input.specs.Plain.{characters_of}
use Rattle.der_input.specs.Slices.{SufficeForBase64}
use Rattle.der_input.proofs.Rooms.{end_of}
use Rattle.der_input.proofs.Sizes.{enough_for_base64}
use Rattle.der_input.proofs.slices.decode_base64_into.Goals as goal

pub returns-in_default : goal.returns-in_default
returns-in_default c =
    let none = (λ (h : SufficeForBase64 c.args.text.now (length c.args.room.now) (length c.args.octets.now)). absurd (omega (arith, h.0, c.in_default.ensures))) in
    record { decoded = none; enough = enough_for_base64 c.args.text.now _ _ _ none }

pub returns-then-octets-decoded_len_estimate : goal.returns-then-octets-decoded_len_estimate
returns-then-octets-decoded_len_estimate c =
    let size = end_of c.args.room.now c.put_characters.new.room (characters_of c.args.text.now) c.in-Some.end c.in-Some.ensures in
    let none = (λ (h : SufficeForBase64 c.args.text.now (length c.args.room.now) (length c.args.octets.now)). absurd (omega (arith, h.1, size, c.decoded_len_estimate.ensures))) in
    record { decoded = none; enough = enough_for_base64 c.args.text.now _ _ _ none }
