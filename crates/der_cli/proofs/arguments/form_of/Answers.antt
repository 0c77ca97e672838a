use Rattle.std.proofs.Common.{◌≡◌, None, Some, codes, subst}
use Rattle.clap.specs.Words.{first_of, found_of, rows_of}
use Rattle.der_cli.specs.Arguments.{NamesForm}
use Rattle.der_cli.proofs.Asking.{form_is}
use Rattle.der_cli.proofs.arguments.form_of.Goals as goal

pub returns-in-Some : goal.returns-in-Some
returns-in-Some c =
    let rows = rows_of (found_of c.args.matches.now) in
    let word = c.in-Some.word.now in
    let said : Some word ≡ first_of (codes "from") rows = rw c.in-Some.is at c.word_of.ensures in
    subst (λ w. NamesForm w c.form_named.result) said (form_is word c.form_named.result c.form_named.ensures.found c.form_named.ensures.only)

pub returns-in-None : goal.returns-in-None
returns-in-None c =
    let rows = rows_of (found_of c.args.matches.now) in
    let said : None ≡ first_of (codes "from") rows = rw c.in-None.is at c.word_of.ensures in
    subst (λ w. NamesForm w None) said (λ form same. cc)
