use Rattle.std.proofs.Common.{◌≡◌, ◌++◌, List, ℕ, codes}
use Rattle.std.proofs.Output.{has_written_of_eq}
use Rattle.type_words.specs.Filters.{assertion_text, flag_text, name_text, rule_text}
use Rattle.type_words.proofs.TextLaws.{seven}
use Rattle.type_words.proofs.filter.write_extensible.Goals as goal

shown : (a r s k v : List ℕ) → r ≡ s → codes "(" ++ (a ++ (r ++ (k ++ (codes ":=" ++ (v ++ codes ")"))))) ≡ codes "(" ++ a ++ s ++ k ++ codes ":=" ++ v ++ codes ")"
shown a r s k v is = rw is (seven (codes "(") a s k (codes ":=") v (codes ")"))

pub returns : goal.returns
returns g c = λ plain ok.
    has_written_of_eq _ _ _ _ _ (shown (name_text c.args.attribute) _ (flag_text c.args.flag) (rule_text c.args.rule) (assertion_text c.args.value.now) c.flag_text-flag.ensures) (c.write.ensures.writes plain ok)
