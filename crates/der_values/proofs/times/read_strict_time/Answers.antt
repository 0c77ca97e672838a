use Rattle.der_values.proofs.TimeTests.{der_time}
use Rattle.der_values.proofs.times.read_strict_time.Goals as goal

pub returns-in-Ok : goal.returns-in-Ok
returns-in-Ok c =
    let found = c.in-Ok.ensures.found in
    let h = der_time c.args.tag.0 c.args.octets.now c.in-Ok.time found.0 found.1 in
    (h.0, (c.in-Ok.time, h.1, c.with_whole_year.ensures))
