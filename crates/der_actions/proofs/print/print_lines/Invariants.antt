use Rattle.der_elements.specs.Ends.{octets_ahead}
use Rattle.der_actions.proofs.Printing.{HasPrinted}
use Rattle.der_actions.proofs.print.print_lines.Given as goal

-- the lines of the listed elements that were visited are written
abbrev pub invariant-elements : goal.invariant-elements
invariant-elements g l = record {
  printed : HasPrinted l.printed.lines l.options l.octets l.walk l.listing l.fields (g.W.Write.contents l.fn.out) (g.W.Write.contents l.out);
}

abbrev pub decreases-elements : goal.decreases-elements
decreases-elements g l = octets_ahead l.walk
