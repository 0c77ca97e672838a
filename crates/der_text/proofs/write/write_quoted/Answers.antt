use Rattle.der_text.proofs.Printed.{pushed_quoted}
use Rattle.der_text.proofs.write.write_quoted.Goals as goal

pub returns-clause-puts : goal.returns-clause-puts
returns-clause-puts c =
    pushed_quoted c.args.octets.now c.in_ok-push.ensures.items c.in_ok-extend_from_slice.ensures.items
    c.in_ok-extend_from_slice-2.ensures.items c.requires
