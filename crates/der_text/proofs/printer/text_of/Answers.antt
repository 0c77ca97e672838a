use Rattle.der_text.proofs.Looks.{whole_looks}
use Rattle.der_text.proofs.Printed.{whole_from}
use Rattle.der_text.proofs.printer.text_of.Goals as goal

pub returns-clause-octets : goal.returns-clause-octets
returns-clause-octets c = whole_from c.new-out.ensures.items c.in_ok-write_elements.ensures.puts

pub returns-clause-looks : goal.returns-clause-looks
returns-clause-looks c = whole_looks c.new-out.ensures.items c.in_ok-write_elements.ensures.text
