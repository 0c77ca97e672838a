use Rattle.std.proofs.Common.{◌++◌, ap, refl}
use Rattle.std.proofs.Output.{has_written_append, has_written_of_eq}
use Rattle.type_words.specs.Filters.{pieces_text}
use Rattle.type_words.proofs.filter.PiecesTextDisplay.fmt.Goals as goal

pub returns-clause-writes : goal.returns-clause-writes
returns-clause-writes g c =
    λ plain ok.
    let head = c.in_ok-write.ensures.writes plain refl in
    has_written_of_eq _ _ _ _ _ (ap (λ s. s ++ pieces_text c.args.self.now.0.now) c.star_before-star.ensures) (has_written_append _ _ _ _ _ _ head (c.write_pieces.ensures head.plain ok))
