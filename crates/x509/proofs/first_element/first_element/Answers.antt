use Rattle.std.proofs.Common.{arith}
use Rattle.der_base.specs.declared.header.Class.TheVariants.{Universal}
use Rattle.x509.specs.Formats.{element}
use Rattle.x509.proofs.ListLaws.{first_found, no_item, no_octets}
use Rattle.x509.proofs.ReaderLaws.{element_read}
use Rattle.x509.proofs.first_element.first_element.Goals as goal

pub returns-then-is_empty : goal.returns-then-is_empty
returns-then-is_empty c = no_octets {k = Universal} {p = c.args.constructed} {t = c.args.tag.0} (grind arith)

pub returns-in_default : goal.returns-in_default
returns-in_default c = no_item {f = element Universal c.args.constructed c.args.tag.0} tt c.new-list.ensures (element_read Universal c.args.constructed c.args.tag.0 c.in_default.ensures)

pub returns : goal.returns
returns c = rw (c.remaining.ensures, c.remaining-rest.ensures) (first_found Universal c.args.constructed c.args.tag.0 c.new-list.ensures c.in-Ok.ensures)
