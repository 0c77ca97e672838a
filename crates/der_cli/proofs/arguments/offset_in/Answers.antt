use Rattle.std.proofs.Common.{◌≡◌, ◌≢◌, ◌∷◌, List, arith, subst, sym, ℕ}
use Rattle.std.proofs.lemmas.Str.Pattern.{strip_prefix_char}
use Rattle.der_cli.specs.Arguments.{IsOffsetIn}
use Rattle.der_cli.proofs.Asking.{offset_is}
use Rattle.der_cli.proofs.arguments.offset_in.Goals as goal

pub returns-in-Some : goal.returns-in-Some
returns-in-Some c =
    let word = c.args.word.now in
    let digits = c.in-Some.digits.now in
    let split : word ≡ 64 ∷ digits = rw c.in-Some.is at (strip_prefix_char 64 word c.strip_prefix.result c.strip_prefix.ensures.cases (omega arith)) in
    subst (IsOffsetIn word) (sym c.ok.ensures.value) (offset_is _ word digits c.parse.result split c.parse.ensures.value.0)

pub returns-in-None : goal.returns-in-None
returns-in-None c =
    let word = c.args.word.now in
    let none : (rest : List ℕ) → word ≢ 64 ∷ rest = rw c.in-None.is at (strip_prefix_char 64 word c.strip_prefix.result c.strip_prefix.ensures.cases (omega arith)) in
    λ digits e. absurd (none digits e)
