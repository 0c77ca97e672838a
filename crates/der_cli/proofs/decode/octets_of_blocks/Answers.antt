use Rattle.std.proofs.Common.{◌≡◌, ◌∙◌, ◌+◌, ◌++◌, ◌<◌, [], Global, Vec, ap, append-nil, append_assoc, arith, refl, subst, suc, sym, ℕ}
use Rattle.der_input.specs.Forms.{HasNoBlock}
use Rattle.der_cli.specs.Inputs.{FailsAtBlock, JoinsBlocks, after_none, broken_block, failed_block, joins_more, joins_none, without_blocks}
use Rattle.der_cli.proofs.Opening.{found_none}
use Rattle.der_cli.proofs.Refusing.{after_next, before_first, few_blocks}
use Rattle.der_cli.proofs.decode.octets_of_blocks.Goals.{else-loop-before-test, then-loop-before-test+in-Ok-Some+in_ok-decoded-in-Ok-Some+in-Some+in_ok-extend_from_slice-in-Ok-Some+else-before-before-end}
use Rattle.der_cli.proofs.decode.octets_of_blocks.Goals as goal

pub returns-in-Ok-None : goal.returns-in-Ok-None
returns-in-Ok-None g c =
    let text = c.args.text.now in
    let before = c.loop-before.before in
    let octets = c.loop-before.octets.items in
    let none = rw c.in-Ok-None.field-0-is at c.in-Ok-None.ensures.ok in
    let count : before + 0 ≡ before = omega arith in
    let all = c.loop-before.invariant.joins 0 [] (joins_none none) in
    (before, c.if-before-gt0.true, subst (λ n. JoinsBlocks n text octets) count (subst (λ w. JoinsBlocks (before + 0) text w) (append-nil octets) all))

pub returns-in-Ok-None-2 : goal.returns-in-Ok-None-2
returns-in-Ok-None-2 g c =
    let text = c.args.text.now in
    let none = rw c.in-Ok-None.field-0-is at c.in-Ok-None.ensures.ok in
    let first = subst HasNoBlock (before_first c.loop-before.invariant.after (omega (arith, c.if-before-gt0.false))) none in
    found_none c.report_nothing.result (FailsAtBlock text) (λ (v : Vec ℕ Global). (n : ℕ) × (0 < n) × JoinsBlocks n text v.items) (without_blocks first)
    c.report_nothing.ensures

pub returns-in-Err : goal.returns-in-Err
returns-in-Err g c =
    let text = c.args.text.now in
    found_none c.report_nothing-in-Err.result (FailsAtBlock text) (λ (v : Vec ℕ Global). (n : ℕ) × (0 < n) × JoinsBlocks n text v.items)
    (broken_block c.loop-before.before c.loop-before.rest.now c.in-Err.e c.loop-before.invariant.after c.in-Err.ensures.err) c.report_nothing-in-Err.ensures

pub returns-in_default : goal.returns-in_default
returns-in_default g c =
    let begins = rw c.in-Ok-Some.field-0-is at c.in-Ok-Some.ensures.ok in
    let fails = rw c.in_default.is at c.in_ok-decoded-in-Ok-Some.ensures in
    failed_block c.loop-before.before c.loop-before.rest.now _ _ _ c.loop-before.invariant.after begins fails

pub loop-before-init : goal.loop-before-init
loop-before-init g c = record {
  joins = λ n others joins.
      let count : n ≡ 0 + n = omega arith in
      subst (λ w. JoinsBlocks (0 + n) c.args.text.now (w ++ others)) (sym c.new-octets.ensures.items) (subst (λ m. JoinsBlocks m c.args.text.now others) count joins);
  after = after_none;
}

pub loop-before-preserved : goal.loop-before-preserved
loop-before-preserved g c =
    let text = c.args.text.now in
    let before = c.loop-before.before in
    let octets = c.loop-before.octets.items in
    let decoded = c.in-Some.decoded.items in
    let after = c.extend_from_slice.new.self.items in
    let begins = rw c.in-Ok-Some.field-0-is at c.in-Ok-Some.ensures.ok in
    let spelled = rw c.in-Some.is at c.in_ok-decoded-in-Ok-Some.ensures in
    let extended : after ≡ octets ++ decoded = c.in_ok-extend_from_slice-in-Ok-Some.ensures.items ∙ ap (λ w. octets ++ w) c.deref.ensures.value in
    record {
      joins = λ n others joins.
          let count : before + suc n ≡ before + 1 + n = omega arith in
          let joined : octets ++ (decoded ++ others) ≡ after ++ others = sym (append_assoc octets decoded others) ∙ ap (λ w. w ++ others) (sym extended) in
          let all = c.loop-before.invariant.joins (suc n) (decoded ++ others) (joins_more _ _ _ _ begins spelled joins) in
          subst (λ m. JoinsBlocks m text (after ++ others)) count (subst (λ w. JoinsBlocks (before + suc n) text w) joined all);
      after = after_next _ _ _ _ c.loop-before.invariant.after begins refl;
    }

pub returns : goal.returns
returns g c =
    elim c.loop-before-test.branch [
      | else-loop-before-test w ↦ absurd (omega (arith, w.loop-before-test.false))
      | then-loop-before-test+in-Ok-Some+in_ok-decoded-in-Ok-Some+in-Some+in_ok-extend_from_slice-in-Ok-Some+else-before-before-end w ↦
          (let begins = rw w.in-Ok-Some.field-0-is at w.in-Ok-Some.ensures.ok in
          absurd (omega (arith, few_blocks (after_next _ _ _ _ c.loop-before.invariant.after begins refl))))
    ]
