use Rattle.type_words.proofs.HiddenLaws.{hidden_stays}
use Rattle.type_words.proofs.laws.hidden_stays_hidden.Goals as goal

pub returns : goal.returns
returns c = λ o i v. hidden_stays o i v
