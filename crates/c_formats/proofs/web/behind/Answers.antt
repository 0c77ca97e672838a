use Rattle.std.proofs.Common.{get_or, arith}
use Rattle.der_values.proofs.Subidentifiers.{first_and_second}
use Rattle.c_formats.proofs.AfterTimestamp.{after_timestamp, not_short, two_octets}
use Rattle.c_formats.proofs.web.behind.Goals as goal

pub returns-in_default : goal.returns-in_default
returns-in_default c = λ w rest z q. absurd (two_octets c.args.timestamps.now (omega arith) w rest z)

pub returns-in-Some : goal.returns-in-Some
returns-in-Some c = λ w rest z q.
    let i = c.args.timestamps.now in
    let two = first_and_second i c.in-len2-up.len_at_least in
    after_timestamp (get_or i 0 0) (get_or i 1 0) c.args.count two w rest z q c.in-Some.ensures.cases

pub returns-in-None : goal.returns-in-None
returns-in-None c = λ w rest z q.
    let i = c.args.timestamps.now in
    let two = first_and_second i c.in-len2-up.len_at_least in
    absurd (not_short (get_or i 0 0) (get_or i 1 0) c.args.count two w rest z q c.in-None.ensures.cases)
