use Rattle.der_text.proofs.Printed.{pushed_line_end}
use Rattle.der_text.proofs.write.write_line_end.Goals as goal

pub returns-clause-puts : goal.returns-clause-puts
returns-clause-puts c = pushed_line_end c.in_ok-push.ensures.items
