use Rattle.std.proofs.Common.{sym, ◌∙◌, arith}
use Rattle.der_canon.proofs.JoinedStrings.{broken_in, kept_in}
use Rattle.der_canon.proofs.strings.check_string.Goals as goal

pub returns-in-Some-innermost-clause-broken : goal.returns-in-Some-innermost-clause-broken
returns-in-Some-innermost-clause-broken c =
    broken_in c.in-Some.string c.args.string c.args.writer.now c.args.out.now c.in-Some-innermost.content.now c.check_content_of.result c.in-Some.is
    c.in-Some-innermost.ensures c.check_content_of.ensures.broken

pub returns-in-Some-innermost-clause-kept : goal.returns-in-Some-innermost-clause-kept
returns-in-Some-innermost-clause-kept c =
    kept_in c.in-Some.string c.args.string c.args.writer.now c.args.out.now c.in-Some-innermost.content.now c.check_content_of.result c.in-Some.is
    c.in-Some-innermost.ensures c.check_content_of.ensures.kept

pub returns-in-None-clause-kept : goal.returns-in-None-clause-kept
returns-in-None-clause-kept c = λ p e xs x h fits. absurd (omega (arith, c.in-None.ensures xs x h, fits))

pub returns-in_default-clause-kept : goal.returns-in_default-clause-kept
returns-in_default-clause-kept c = λ p e. absurd (let k = sym c.in_default.is ∙ e in cc)
