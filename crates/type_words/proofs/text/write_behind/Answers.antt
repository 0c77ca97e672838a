use Rattle.std.proofs.Common.{refl}
use Rattle.std.proofs.Output.{has_written_append}
use Rattle.type_words.proofs.text.write_behind.Goals as goal

pub returns : goal.returns
returns g c =
    λ plain ok.
    let front = c.in_ok-write_front.ensures plain refl in
    let value = c.write_value.ensures front.plain ok in
    (_, (value.0, value.1, refl), has_written_append _ _ _ _ _ _ front value.2)
