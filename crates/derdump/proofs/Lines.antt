-- The line that is printed of an object.
use Rattle.std.proofs.Common.{◌≡◌, List, [], ◌∷◌, ◌++◌, codes, true, false, refl, ap}
use Rattle.der_parser.specs.HeaderFacts.{form_of}
use Rattle.der_parser.specs.Pretty.{plain_form}
use Rattle.der_parser.specs.Printer.{IsPrinter, printed}
use Rattle.der_parser.specs.View.{tree}
use Rattle.der_parser.specs.declared.ber.BerObject.{BerObject}
use Rattle.der_parser.specs.declared.ber.PrettyBer.{PrettyBer}
use Rattle.der_parser.specs.declared.ber.PrettyPrinterFlag.TheVariants.{Recursive}
use Rattle.der_parser.proofs.PrettyLaws.{lengths_show_in_headers}
use Rattle.derdump.specs.Outputs.{line_of}

pub line_printed : (p : PrettyBer) (o : BerObject) → IsPrinter p o (Recursive ∷ []) 0 2 → printed p ++ codes "\n" ≡ line_of (tree o)
line_printed p o q =
    ap (λ t. t ++ codes "\n") (rw (q.object, q.flags, q.indent, q.increment)
    (lengths_show_in_headers (record { recursive = true; headers = false; increment = 2 }) 0 (tree o) (form_of o) plain_form refl))
