use Rattle.std.proofs.Common.{◌≡◌, MatchOption, None, codes, subst}
use Rattle.std.specs.Str.Parse.{ExplainsUnsignedError, HasUnsignedDigitsIfOk, ParsesUnsigned}
use Rattle.clap.specs.Words.{found_of, one_text}
use Rattle.clap.proofs.WalkLemmas.{one_text-rows}
use Rattle.der_cli.specs.Arguments.{IsNumberIn}
use Rattle.der_cli.proofs.Asking.{number_is}
use Rattle.der_cli.proofs.arguments.seconds_of.Goals as goal

pub returns : goal.returns
returns c =
    let found = found_of c.args.matches.now in
    let name = codes "now" in
    let r = c.get_one.result in
    subst (λ word. MatchOption word (r ≡ None) (λ w. IsNumberIn w r)) (one_text-rows found name)
    (number_is _ (λ bs x. ParsesUnsigned 64 10 bs x × ExplainsUnsignedError 10 bs x × HasUnsignedDigitsIfOk bs x) (one_text found name) r (λ t x g. g.0) c.get_one.ensures.none c.get_one.ensures.value)
