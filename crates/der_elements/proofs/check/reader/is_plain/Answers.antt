use Rattle.std.proofs.Common.{◌≤◌, ◌<◌, rules, subst}
use Rattle.der_contents.specs.ContentRules.{IsContent}
use Rattle.der_elements.proofs.check.reader.is_plain.Goals as goal

pub returns-in-7-to-30 : goal.returns-in-7-to-30
returns-in-7-to-30 c =
    let some : 1 ≤ c.args.first = search rules in
    let small : c.args.first < 31 = search rules in
    λ yes. (some, small, subst (λ t. IsContent c.args.rules t c.args.content.now) c.from.ensures (c.is_content-in-7-to-30.ensures.0 yes))
