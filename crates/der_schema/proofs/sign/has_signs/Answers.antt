use Rattle.std.proofs.Common.{◌≡◌, false, refl}
use Rattle.der_schema.proofs.SignLaws.{sign_lacks, sign_there, signs_there}
use Rattle.der_schema.proofs.sign.has_signs.Goals as goal

pub loop-sign-init : goal.loop-sign-init
loop-sign-init c = λ vs visits. refl

pub loop-sign-preserved : goal.loop-sign-preserved
loop-sign-preserved c =
    sign_there c.args.rules c.args.input.now c.args.signs.now c.loop-sign.ahead.now c.in-Some.rest.now
    c.in-Some.sign.now c.has_sign.result c.loop-sign.invariant c.in-Some.ensures.cases.0 c.has_sign.ensures
    c.if-not-has_sign.false

pub returns-then-not-has_sign : goal.returns-then-not-has_sign
returns-then-not-has_sign c =
    let lacks : c.has_sign.result ≡ false = let t = c.if-not-has_sign.true in cc in
    sign_lacks c.args.rules c.args.input.now c.args.signs.now c.loop-sign.ahead.now c.in-Some.rest.now
    c.in-Some.sign.now c.has_sign.result c.loop-sign.invariant c.in-Some.ensures.cases.0 c.has_sign.ensures lacks

pub returns : goal.returns
returns c =
    signs_there c.args.rules c.args.input.now c.args.signs.now c.loop-sign.ahead.now c.loop-sign.invariant
    (rw c.in_default.is at c.split_first.ensures.cases)
