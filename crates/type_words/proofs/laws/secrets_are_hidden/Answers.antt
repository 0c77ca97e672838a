use Rattle.type_words.proofs.HiddenLaws.{secret}
use Rattle.type_words.proofs.laws.secrets_are_hidden.Goals as goal

pub returns : goal.returns
returns c = λ l p i v is. secret l p i v is
