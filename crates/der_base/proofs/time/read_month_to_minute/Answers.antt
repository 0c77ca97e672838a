use Rattle.std.proofs.Common.{◌++◌, sym, ◌∙◌, arith}
use Rattle.der_base.specs.Time.{two_digits}
use Rattle.der_base.proofs.Times.OneReading.{two_same}
use Rattle.der_base.proofs.time.read_month_to_minute.Goals as goal

pub returns-in_err-day : goal.returns-in_err-day
returns-in_err-day c =
    rw c.from_residual-in_err-day.ensures
    (λ t rest m e.
    let day = two_same c.in_ok-month.month t.month c.in_ok-month.rest.now (two_digits t.day ++ (two_digits t.hour ++ (two_digits t.minute ++ rest))) (omega (arith, c.in_ok-month.ensures))
    (omega (arith, m.month)) (sym c.in_ok-month.ensures.2 ∙ e) in
    c.in_err-day.ensures t.day (two_digits t.hour ++ (two_digits t.minute ++ rest)) m.day.0 m.day.1 day.1)

pub returns-in_err-hour : goal.returns-in_err-hour
returns-in_err-hour c =
    rw c.from_residual-in_err-hour.ensures
    (λ t rest m e.
    let day = two_same c.in_ok-month.month t.month c.in_ok-month.rest.now (two_digits t.day ++ (two_digits t.hour ++ (two_digits t.minute ++ rest))) (omega (arith, c.in_ok-month.ensures))
    (omega (arith, m.month)) (sym c.in_ok-month.ensures.2 ∙ e) in
    let hour = two_same c.in_ok-day.day t.day c.in_ok-day.rest.now (two_digits t.hour ++ (two_digits t.minute ++ rest)) (omega (arith, c.in_ok-day.ensures)) (omega (arith, m.day))
    (sym c.in_ok-day.ensures.2 ∙ day.1) in
    c.in_err-hour.ensures t.hour (two_digits t.minute ++ rest) (omega arith) (omega (arith, m.hour)) hour.1)

pub returns-in_err-minute : goal.returns-in_err-minute
returns-in_err-minute c =
    rw c.from_residual-in_err-minute.ensures
    (λ t rest m e.
    let day = two_same c.in_ok-month.month t.month c.in_ok-month.rest.now (two_digits t.day ++ (two_digits t.hour ++ (two_digits t.minute ++ rest))) (omega (arith, c.in_ok-month.ensures))
    (omega (arith, m.month)) (sym c.in_ok-month.ensures.2 ∙ e) in
    let hour = two_same c.in_ok-day.day t.day c.in_ok-day.rest.now (two_digits t.hour ++ (two_digits t.minute ++ rest)) (omega (arith, c.in_ok-day.ensures)) (omega (arith, m.day))
    (sym c.in_ok-day.ensures.2 ∙ day.1) in
    let minute = two_same c.in_ok-hour.hour t.hour c.in_ok-hour.rest.now (two_digits t.minute ++ rest) (omega (arith, c.in_ok-hour.ensures)) (omega (arith, m.hour))
    (sym c.in_ok-hour.ensures.2 ∙ hour.1) in
    c.in_err-minute.ensures t.minute rest (omega arith) (omega (arith, m.minute)) minute.1)
