use Rattle.std.proofs.Common.{◌≡◌, ◌++◌, List, ℕ, codes}
use Rattle.std.proofs.Output.{has_written_of_eq}
use Rattle.type_words.specs.Filters.{assertion_text, relation_text}
use Rattle.type_words.proofs.TextLaws.{five}
use Rattle.type_words.proofs.filter.write_comparison.Goals as goal

shown : (a r s v : List ℕ) → r ≡ s → codes "(" ++ (a ++ (r ++ (v ++ codes ")"))) ≡ codes "(" ++ a ++ s ++ v ++ codes ")"
shown a r s v is = rw is (five (codes "(") a s v (codes ")"))

pub returns : goal.returns
returns g c = λ plain ok.
    has_written_of_eq _ _ _ _ _ (shown (assertion_text c.args.attribute.now) _ (relation_text c.args.relation) (assertion_text c.args.value.now) c.relation_text-relation.ensures) (c.write.ensures.writes plain ok)
