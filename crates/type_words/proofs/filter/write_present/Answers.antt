use Rattle.std.proofs.Common.{codes}
use Rattle.std.proofs.Output.{has_written_of_eq}
use Rattle.type_words.specs.Filters.{assertion_text}
use Rattle.type_words.proofs.TextLaws.{three}
use Rattle.type_words.proofs.filter.write_present.Goals as goal

pub returns : goal.returns
returns g c = λ plain ok. has_written_of_eq _ _ _ _ _ (three (codes "(") (assertion_text c.args.attribute.now) (codes "=*)")) (c.write.ensures.writes plain ok)
