use Rattle.std.proofs.Common.{◌++◌, ap}
use Rattle.std.proofs.Output.{has_written_of_eq}
use Rattle.type_words.specs.Filters.{assertion_text}
use Rattle.type_words.proofs.filter.PieceTextDisplay.fmt.Goals as goal

pub returns-clause-writes : goal.returns-clause-writes
returns-clause-writes g c = λ plain ok.
    has_written_of_eq _ _ _ _ _ (ap (λ s. assertion_text c.args.self.now.0.value.now ++ s) c.star_unless_final-star.ensures) (c.write.ensures.writes plain ok)
