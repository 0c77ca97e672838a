use Rattle.std.proofs.Common.{◌∙◌, drop, refl, sym, subst, arith}
use Rattle.std.proofs.lemmas.List.{take_rest}
use Rattle.der_base.specs.Inner.TimeParts.{IsLooseEnd}
use Rattle.der_base.proofs.Leaves.Decided.{never}
use Rattle.der_base.proofs.Times.TimesStrict.{seconds_refused, fraction_refused, strict_time}
use Rattle.der_base.proofs.time.read_strict_time.Goals as goal

pub returns-in_default-get : goal.returns-in_default-get
returns-in_default-get c =
    let z = c.if-not-ends_in_z.ensures.0 refl in
    seconds_refused c.args.tag.0 c.args.content.now z.0 c.in-Some.time c.in-Some.ensures.found z.1 (omega (arith, c.in_default-get.ensures.lookup.0, c.seconds_end.ensures))

pub returns-then-is_loose_end : goal.returns-then-is_loose_end
returns-then-is_loose_end c =
    let z = c.if-not-ends_in_z.ensures.0 refl in
    let get = c.in-Some-get.ensures.lookup.0 in
    let behind = get.2 ∙ take_rest c.args.content.now c.seconds_end.result in
    fraction_refused c.args.tag.0 c.args.content.now z.0 c.in-Some.time c.in-Some.ensures.found z.1 (omega (arith, get.0, c.seconds_end.ensures))
    (subst (λ n. IsLooseEnd (drop n c.args.content.now)) c.seconds_end.ensures (subst IsLooseEnd behind (c.if-is_loose_end.ensures.0 refl)))

pub returns : goal.returns
returns c =
    let z = c.if-not-ends_in_z.ensures.0 refl in
    let get = c.in-Some-get.ensures.lookup.0 in
    let behind = get.2 ∙ take_rest c.args.content.now c.seconds_end.result in
    strict_time c.args.tag.0 c.args.content.now z.0 c.in-Some.time c.in-Some.ensures.found z.1 (omega (arith, get.0, c.seconds_end.ensures))
    (λ loose. never (c.if-is_loose_end.ensures.1 (subst IsLooseEnd (sym behind) (subst (λ n. IsLooseEnd (drop n c.args.content.now)) (sym c.seconds_end.ensures) loose))))
