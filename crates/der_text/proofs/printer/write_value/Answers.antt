use Rattle.std.proofs.Common.{rules}
use Rattle.der_text.proofs.Looks.{value_octets, value_word}
use Rattle.der_text.proofs.Printed.{if_false, if_true}
use Rattle.der_text.proofs.printer.write_value.Goals as goal

pub returns-then-branch-clause-text : goal.returns-then-branch-clause-text
returns-then-branch-clause-text c =
    value_word c.args.element.now c.args.indent
    (if_true _ c.in_ok-write_value_word.field-0 (search rules) c.in_ok-write_value_word.ensures.text)

pub returns-clause-text : goal.returns-clause-text
returns-clause-text c =
    value_octets c.args.element.now c.args.indent
    (if_false _ c.in_ok-write_value_word.field-0 (search rules) c.in_ok-write_value_word.ensures.text) c.in_ok-write_octets.ensures.text
