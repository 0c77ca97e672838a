use Rattle.std.proofs.Common.{arith}
use Rattle.der_contents.proofs.RuleLaws.{chosen, other_chosen}
use Rattle.der_contents.proofs.real_forms.check_form.Goals as goal

pub returns-then-first-lt-SPECIAL : goal.returns-then-first-lt-SPECIAL
returns-then-first-lt-SPECIAL c =
    chosen c.args.first 64 _ _ c.check_decimal.result (omega arith) c.check_decimal.ensures

pub returns-then-first-lt-BINARY : goal.returns-then-first-lt-BINARY
returns-then-first-lt-BINARY c =
    other_chosen c.args.first 64 _ _ c.check_special.result (omega arith)
    (chosen c.args.first 128 _ _ c.check_special.result (omega arith) c.check_special.ensures)

pub returns : goal.returns
returns c =
    other_chosen c.args.first 64 _ _ c.check_binary.result (omega arith)
    (other_chosen c.args.first 128 _ _ c.check_binary.result (omega arith) c.check_binary.ensures)
