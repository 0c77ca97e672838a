use Rattle.std.proofs.Common.{subst}
use Rattle.der_base.specs.Inner.TimeParts.{IsLastZone}
use Rattle.der_base.proofs.Times.TimesRead.{not_generalized, generalized_behind, generalized_end, generalized_found, fine_once}
use Rattle.der_base.proofs.time.read_generalized_time.Goals as goal

pub returns-in_err-time : goal.returns-in_err-time
returns-in_err-time c =
    rw c.from_residual-in_err-time.ensures
    (not_generalized c.args.content.now (λ t h. let b = generalized_behind c.args.content.now c.in_ok-year.rest.now c.in_ok-year.year t c.in_ok-year.ensures.0 c.in_ok-year.ensures.1 h in
    c.in_err-time.ensures t b.0 b.2 b.1))

pub returns-in_err-second : goal.returns-in_err-second
returns-in_err-second c =
    rw c.from_residual-in_err-second.ensures
    (not_generalized c.args.content.now (λ t h. let e = generalized_end c.args.content.now c.in_ok-year.rest.now c.in_ok-time.rest.now c.in_ok-year.year c.in_ok-time.time t
    c.in_ok-year.ensures.0 c.in_ok-year.ensures.1 c.in_ok-time.ensures.0 c.in_ok-time.ensures.2 h in
    c.in_err-second.ensures t.second t.nanosecond e.zone e.reads))

pub returns-in_err-tz : goal.returns-in_err-tz
returns-in_err-tz c =
    rw c.from_residual-in_err-tz.ensures
    (not_generalized c.args.content.now (λ t h. let e = generalized_end c.args.content.now c.in_ok-year.rest.now c.in_ok-time.rest.now c.in_ok-year.year c.in_ok-time.time t
    c.in_ok-year.ensures.0 c.in_ok-year.ensures.1 c.in_ok-time.ensures.0 c.in_ok-time.ensures.2 h in
    c.in_err-tz.ensures t.tz
    (subst (λ z. IsLastZone z t.tz)
    (fine_once c.in_ok-time.rest.now e.zone c.in_ok-second.rest.now t.second c.in_ok-second.second t.nanosecond c.in_ok-second.nanosecond e.reads c.in_ok-second.ensures) e.ends)))

pub returns : goal.returns
returns c =
    generalized_found c.args.content.now c.in_ok-year.rest.now c.in_ok-time.rest.now c.in_ok-second.rest.now c.in_ok-year.year c.in_ok-second.second
    c.in_ok-time.time c.in_ok-second.nanosecond c.in_ok-tz.tz
    c.in_ok-year.ensures.0 c.in_ok-time.ensures.1 c.in_ok-year.ensures.1 c.in_ok-time.ensures.0 c.in_ok-time.ensures.2 c.in_ok-second.ensures c.in_ok-tz.ensures
