use Rattle.std.proofs.Common.{◌≡◌, length, arith, rules}
use Rattle.std.proofs.lemmas.List.{nil_from_length}
use Rattle.der_uses.proofs.ObjectLaws.{if_some, is_pair_of, pair_is}
use Rattle.der_uses.proofs.shown.is_pair.Goals as goal

pub returns-in-Some-eq2 : goal.returns-in-Some-eq2
returns-in-Some-eq2 c =
    let x = c.in-Some-eq2.field-0 in
    let l = c.in-Some-eq2.ensures.listed in
    let none : length x.rest.now ≡ 0 = search (rules, arith, c.in-Some-eq2.len_below) in
    (λ h. is_pair_of c.args.input.now x (l.0, l.1, l.2, l.3.0) (nil_from_length x.rest.now none) (search rules), λ p. search rules)

pub returns-in_default : goal.returns-in_default
returns-in_default c = (λ h. search rules, λ p. let (x, a, b, d) = pair_is c.args.input.now c.list_element.result c.list_element.ensures.exactly (if_some c.list_element.result (λ x l. (l.0, l.1, l.2, l.3.0)) c.list_element.ensures.listed) p in search rules)

pub returns-in_default-2 : goal.returns-in_default-2
returns-in_default-2 c = (λ h. search rules, λ p. let (x, a, b, d) = pair_is c.args.input.now c.list_element.result c.list_element.ensures.exactly (if_some c.list_element.result (λ x l. (l.0, l.1, l.2, l.3.0)) c.list_element.ensures.listed) p in search rules)

pub returns-in_default-3 : goal.returns-in_default-3
returns-in_default-3 c = (λ h. search rules, λ p. let (x, a, b, d) = pair_is c.args.input.now c.list_element.result c.list_element.ensures.exactly (if_some c.list_element.result (λ x l. (l.0, l.1, l.2, l.3.0)) c.list_element.ensures.listed) p in search rules)
