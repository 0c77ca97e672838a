use Rattle.std.proofs.Output.{has_written_of_eq}
use Rattle.der_base.proofs.Times.TimesShown.{text_shown}
use Rattle.der_base.proofs.time.TimeTextDisplay.fmt.Goals as goal

pub returns-clause-writes : goal.returns-clause-writes
returns-clause-writes g c =
    λ plain ok. has_written_of_eq _ _ _ _ _
    (text_shown c.args.self.now.tag.0 c.year_digits.result c.args.self.now.time _ _ _ _ _ c.year_digits.ensures c.two_digits-month.ensures c.two_digits-day.ensures c.two_digits-hour.ensures
    c.two_digits-minute.ensures c.two_digits-second.ensures)
    (c.write.ensures.writes plain ok)
