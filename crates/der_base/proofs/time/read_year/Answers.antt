use Rattle.std.proofs.Common.{◌%◌, arith}
use Rattle.der_base.proofs.Times.TimesRead.{years_behind}
use Rattle.der_base.proofs.time.read_year.Goals as goal

pub returns-in_err-year : goal.returns-in_err-year
returns-in_err-year c =
    rw c.from_residual-in_err-year.ensures
    (λ n rest l e. c.in_err-year.ensures (n % 100) rest (omega arith) (omega arith)
    (years_behind c.args.content.now c.in_ok-century.rest.now rest c.in_ok-century.century n c.in_ok-century.ensures.2 e))
