-- What holds by the rules that are given.
use Rattle.std.specs.Prelude.{ℕ, List}
use Rattle.der_base.specs.declared.rules.Rules.{Rules}
use Rattle.der_base.specs.declared.rules.Rules.TheVariants.{Ber, Der}
use Rattle.der_base.specs.Headers.{HeaderAnswer, AnswersBerHeader, AnswersDerHeader, LeadingHeader, SpellsHeader}
use Rattle.der_base.specs.Headers.{SpellsDerHeader}

-- i begins with a header, by these rules
abbrev pub SpellsHeaderBy : Rules → List ℕ → LeadingHeader → Type 0
SpellsHeaderBy Ber i v = SpellsHeader i v
SpellsHeaderBy Der i v = SpellsDerHeader i v

-- the result of the reader of headers by these rules
abbrev pub AnswersHeader : Rules → List ℕ → HeaderAnswer → Type 0
AnswersHeader Ber i result = AnswersBerHeader i result
AnswersHeader Der i result = AnswersDerHeader i result
