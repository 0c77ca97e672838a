use Rattle.std.proofs.Common.{codes}
use Rattle.std.proofs.Output.{has_written_of_eq}
use Rattle.type_words.specs.Filters.{assertion_text, pieces_text, star_before}
use Rattle.type_words.proofs.TextLaws.{six_in_five}
use Rattle.type_words.proofs.filter.write_substrings.Goals as goal

pub returns : goal.returns
returns g c = λ plain ok.
    has_written_of_eq _ _ _ _ _ (six_in_five (codes "(") (assertion_text c.args.attribute.now) (codes "=") (star_before c.args.pieces.now) (pieces_text c.args.pieces.now) (codes ")")) (c.write.ensures.writes plain ok)
