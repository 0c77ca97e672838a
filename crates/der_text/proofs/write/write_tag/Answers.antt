use Rattle.std.proofs.Common.{◌∙◌, rules, sym}
use Rattle.der_text.proofs.Printed.{pushed_tag}
use Rattle.der_text.proofs.write.write_tag.Goals as goal

pub returns-clause-puts : goal.returns-clause-puts
returns-clause-puts c =
    pushed_tag c.args.tag.now c.args.identifier.now c.in_ok-push.ensures.items c.in_ok-extend_from_slice.ensures.items
    c.in_ok-extend_from_slice-2.ensures.items (search rules) (sym c.in_ok-found.ensures ∙ c.has_octets.ensures.0 (search rules))
