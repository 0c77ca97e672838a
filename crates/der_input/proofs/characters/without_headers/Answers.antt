use Rattle.std.proofs.Common.{rules}
use Rattle.der_input.proofs.Lines.{no_headers}
use Rattle.der_input.proofs.characters.without_headers.Goals as goal

pub returns-then-not-contains : goal.returns-then-not-contains
returns-then-not-contains c =
    let f = c.if-not-contains.true in
    no_headers c.args.text.now (λ has. absurd (search (rules, f, c.contains.ensures.1 has)))
