use Rattle.std.proofs.Common.{refl}
use Rattle.std.proofs.Output.{has_written_append}
use Rattle.type_words.proofs.text.write_line.Goals as goal

pub returns : goal.returns
returns g c =
    λ plain ok.
    let columns = c.in_ok-write_columns.ensures plain refl in
    let label = c.in_ok-write.ensures.writes columns.plain refl in
    let ending = c.in_ok-write_ending.ensures label.plain refl in
    let end = c.write_str.ensures.writes ending.2.plain ok in (
      _,
      (ending.0, ending.1, refl),
      has_written_append _ _ _ _ _ _ (has_written_append _ _ _ _ _ _ (has_written_append _ _ _ _ _ _ columns label) ending.2) end,
    )
