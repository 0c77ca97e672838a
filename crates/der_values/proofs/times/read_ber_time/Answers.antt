use Rattle.std.proofs.Common.{rules}
use Rattle.der_base.specs.declared.error.Error.TheVariants.{InvalidDateTime}
use Rattle.der_base.specs.declared.rules.Rules.TheVariants.{Ber}
use Rattle.der_base.specs.LeafRefusal.{IsFirstRefusal}
use Rattle.der_base.specs.Refusal.{invalid_date_time}
use Rattle.der_values.specs.Kinds.{leaf_tests}
use Rattle.der_values.proofs.TimeTests.{ber_time, ber_refused}
use Rattle.der_values.proofs.times.read_ber_time.Goals as goal

pub returns-in-Some : goal.returns-in-Some
returns-in-Some c =
    let h = c.in-Some.ensures.found in
    rw c.if-whole.true (ber_time c.args.tag.0 c.args.octets.now c.in-Some.time h, (c.in-Some.time, h, c.with_whole_year.ensures))

pub returns-in-Some-2 : goal.returns-in-Some-2
returns-in-Some-2 c =
    let h = c.in-Some.ensures.found in
    rw c.if-whole.false (ber_time c.args.tag.0 c.args.octets.now c.in-Some.time h, h)

pub returns-in-None : goal.returns-in-None
returns-in-None c =
    let t = c.args.tag.0 in
    let w = c.args.octets.now in
    let r : IsFirstRefusal (leaf_tests Ber t w) invalid_date_time = search rules in
    ber_refused c.args.whole t w InvalidDateTime r
