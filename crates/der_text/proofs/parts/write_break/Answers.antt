use Rattle.der_text.proofs.Printed.{puts_none, puts_then_none}
use Rattle.der_text.proofs.parts.write_break.Goals as goal

pub returns-then-not-more-clause-puts : goal.returns-then-not-more-clause-puts
returns-then-not-more-clause-puts c = puts_none c.args.out.now.items

pub returns-clause-puts : goal.returns-clause-puts
returns-clause-puts c = puts_then_none c.in_ok-write_line_end.ensures.puts c.in_ok-write_spaces.ensures.puts
