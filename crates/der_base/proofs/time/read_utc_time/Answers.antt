use Rattle.std.proofs.Common.{arith}
use Rattle.der_base.proofs.Times.TimesRead.{not_utc, utc_end, utc_found}
use Rattle.der_base.proofs.time.read_utc_time.Goals as goal

pub returns-in_err-second : goal.returns-in_err-second
returns-in_err-second c =
    rw c.from_residual-in_err-second.ensures
    (not_utc c.args.content.now (λ t h. let e = utc_end c.args.content.now c.in_ok-year.rest.now c.in_ok-time.rest.now c.in_ok-year.year c.in_ok-time.time t
    c.in_ok-year.ensures.1 c.in_ok-year.ensures.2 c.in_ok-time.ensures.0 c.in_ok-time.ensures.2 h in
    c.in_err-second.ensures e.second e.zone e.reads))

pub returns : goal.returns
returns c =
    utc_found c.args.content.now c.in_ok-year.rest.now c.in_ok-time.rest.now c.in_ok-second.rest.now c.in_ok-year.year c.unwrap_or.result c.in_ok-time.time c.in_ok-second.second c.in_ok-tz.tz
    c.in_ok-year.ensures.1
    (omega (arith, c.in_ok-time.ensures.1, c.from.ensures)) c.in_ok-year.ensures.2 c.in_ok-time.ensures.0 c.in_ok-time.ensures.2 c.unwrap_or.ensures c.in_ok-second.ensures c.in_ok-tz.ensures
