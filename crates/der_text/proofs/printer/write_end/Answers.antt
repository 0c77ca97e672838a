use Rattle.der_text.proofs.Printed.{pushed_end}
use Rattle.der_text.proofs.printer.write_end.Goals as goal

pub returns-clause-puts : goal.returns-clause-puts
returns-clause-puts c = pushed_end c.in_ok-write_spaces.ensures.puts c.in_ok-extend_from_slice.ensures.items
