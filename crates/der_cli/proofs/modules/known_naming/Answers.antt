use Rattle.std.proofs.Common.{refl}
use Rattle.der_cli.proofs.Asking.{word_given}
use Rattle.der_cli.proofs.modules.known_naming.Goals as goal

pub returns : goal.returns
returns g c = λ none. word_given c.args.word _ c.naming_of-naming.result _ refl c.naming_of-naming.ensures.unsaid none
