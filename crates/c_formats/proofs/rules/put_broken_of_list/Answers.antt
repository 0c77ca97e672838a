use Rattle.std.proofs.Common.{◌++◌, refl, subst, sym, arith, length-append}
use Rattle.std.proofs.lemmas.Bool.{false≢true}
use Rattle.std.proofs.lemmas.Option.{slice_get_within}
use Rattle.x509_rules.specs.declared.crl.revoked.ListRule.{ListRule}
use Rattle.x509.specs.Crl.Lists.{certificate_list_of}
use Rattle.x509_rules.specs.Crl.ListRules.{BreaksList}
use Rattle.c_formats.proofs.BrokenNumbers.{all_asked, none_so_far, one_broken, one_kept}
use Rattle.c_formats.proofs.rules.put_broken_of_list.Goals as goal
use Rattle.c_formats.proofs.rules.put_broken_of_list.Goals.{then-examined_list_breaks, else-examined_list_breaks}

pub loop-rule-init : goal.loop-rule-init
loop-rule-init c = none_so_far (λ r. BreaksList r (certificate_list_of c.args.list.now)) 1001 (c.args.rules.now ++ c.args.others.now) c.args.numbers.now

pub overflow_add-index : goal.overflow_add-index
overflow_add-index c =
    let all = c.args.rules.now ++ c.args.others.now in
    omega (arith, c.requires, slice_get_within all c.loop-rule.index c.in-Some.rule (sym c.in-Some.ensures), length-append c.args.rules.now c.args.others.now)

pub overflow_add-index-in-Some : goal.overflow_add-index-in-Some
overflow_add-index-in-Some c =
    let all = c.args.rules.now ++ c.args.others.now in
    omega (arith, c.requires, slice_get_within all c.loop-rule.index c.in-Some.rule (sym c.in-Some.ensures), length-append c.args.rules.now c.args.others.now)

pub loop-rule-smaller : goal.loop-rule-smaller
loop-rule-smaller c =
    let all = c.args.rules.now ++ c.args.others.now in
    omega (arith, slice_get_within all c.loop-rule.index c.in-Some.rule (sym c.in-Some.ensures))

pub loop-rule-preserved : goal.loop-rule-preserved
loop-rule-preserved c =
    let IsBroken : ListRule → Type 0 = λ r. BreaksList r (certificate_list_of c.args.list.now) in
    let all = c.args.rules.now ++ c.args.others.now in
    let old = c.args.numbers.now in
    let rule = c.in-Some.rule in
    let i = c.loop-rule.index in
    let is = sym c.in-Some.ensures in
    let before = c.loop-rule in
    let same = c.examine_list-examined.ensures.list in
    elim c.if-examined_list_breaks.branch [
      | then-examined_list_breaks w ↦ rw w.numbers-is (rw w.count-is (one_broken IsBroken 1001 all old i rule before.numbers w.put_number.new.numbers before.count is before.invariant (subst (BreaksList rule) same (w.if-examined_list_breaks.ensures.0 refl)) w.put_number.ensures))
      | else-examined_list_breaks w ↦ rw w.numbers-is (rw w.count-is (one_kept IsBroken 1001 all old i rule before.numbers before.count is before.invariant (λ b. false≢true (w.if-examined_list_breaks.ensures.1 (subst (BreaksList rule) (sym same) b)))))
    ]

pub returns : goal.returns
returns c =
    all_asked (λ r. BreaksList r (certificate_list_of c.args.list.now)) 1001 (c.args.rules.now ++ c.args.others.now) c.args.numbers.now
    c.loop-rule.index c.loop-rule.numbers c.loop-rule.count (sym c.in_default.ensures) c.loop-rule.invariant
