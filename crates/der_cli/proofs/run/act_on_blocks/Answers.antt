use Rattle.std.proofs.Common.{◌≡◌, ◌∙◌, ◌&&◌, ◌+◌, ◌<◌, Bool, List, Option, ap, arith, false, refl, subst, suc, sym, true, ℕ}
use Rattle.std.specs.Borrow.{Bor}
use Rattle.der_input.specs.Blocks.{BeginsWithBlock}
use Rattle.der_input.specs.Forms.{HasNoBlock}
use Rattle.der_actions.specs.declared.options.Options.{Options}
use Rattle.der_cli.specs.Inputs.{TakesBlock, TakesBlocks, TakesPem, TellsWhy, after_none, broken_last, no_block, no_blocks, one_more, some_blocks}
use Rattle.der_cli.proofs.Refusing.{after_next, before_first, few_blocks, taken_not}
use Rattle.der_cli.proofs.run.act_on_blocks.Goals.{else-are_read, then-are_read}
use Rattle.der_cli.proofs.run.act_on_blocks.Goals as goal

and_assoc : (a b c : Bool) → ((a && b) && c) ≡ (a && (b && c))
and_assoc true b c = refl
and_assoc false b c = refl

and_true : (b : Bool) → (b && true) ≡ b
and_true true = refl
and_true false = refl

and_false : (b : Bool) → (b && false) ≡ false
and_false true = refl
and_false false = refl

then_and : (a b c : Bool) → a ≡ true → c ≡ b → (a && b) ≡ c
then_and a b c true_a same = ap (λ x. x && b) true_a ∙ sym same

else_and : (a b c : Bool) → a ≡ false → c ≡ a → (a && b) ≡ c
else_and a b c false_a same = ap (λ x. x && b) false_a ∙ (sym false_a ∙ sym same)

-- one more block is taken
more : (o : Options) (name text i rest label lines : List ℕ) (first mid between new : Option (List ℕ)) (before n : ℕ) (are_read is_read all : Bool)
    → ((n : ℕ) (new : Option (List ℕ)) (all : Bool) → TakesBlocks o name n i mid new all → TakesBlocks o name (before + n) text first new (are_read && all))
    → BeginsWithBlock i label lines rest → TakesBlock o name label lines mid between is_read → TakesBlocks o name n rest between new all
    → TakesBlocks o name (before + 1 + n) text first new ((are_read && is_read) && all)
more o name text i rest label lines first mid between new before n are_read is_read all takes begins block others =
    let e : before + suc n ≡ before + 1 + n = omega arith in
    let one = takes (suc n) new (is_read && all) (one_more label lines rest between is_read begins block others) in
    subst (λ m. TakesBlocks o name m text first new ((are_read && is_read) && all)) e
    (subst (λ b. TakesBlocks o name (before + suc n) text first new b) (sym (and_assoc are_read is_read all)) one)

pub returns-in-Ok-None : goal.returns-in-Ok-None
returns-in-Ok-None g c =
    let o = c.args.options.now in
    let name = c.args.name.now in
    let text = c.args.text.now in
    let old = g.W.Write.contents c.args.out.now in
    let new = g.W.Write.contents c.loop-before.out in
    let before = c.loop-before.before in
    let e : before + 0 ≡ before = omega arith in
    let none = rw c.in-Ok-None.field-0-is at c.in-Ok-None.ensures.ok in
    let all = c.loop-before.invariant.takes 0 _ true (no_block none) in
    some_blocks before c.loop-before.are_read c.if-before-gt0.true
    (subst (λ b. TakesBlocks o name before text old new b) (and_true c.loop-before.are_read)
    (subst (λ m. TakesBlocks o name m text old new (c.loop-before.are_read && true)) e all))

pub loop-before-preserved : goal.loop-before-preserved
loop-before-preserved g c =
    let o = c.args.options.now in
    let name = c.args.name.now in
    let text = c.args.text.now in
    let first = g.W.Write.contents c.args.out.now in
    let between = g.W.Write.contents c.act_on_block.new.out in
    let before = c.loop-before.before in
    let are_read = c.loop-before.are_read in
    let is_read = c.in_ok-is_read-in-Ok-Some.is_read in
    let begins = rw c.in-Ok-Some.field-0-is at c.in-Ok-Some.ensures.ok in
    record {
      takes = λ n new all others.
          elim c.if-are_read.branch [
            | then-are_read w ↦
                subst (λ b. TakesBlocks o name (before + 1 + n) text first new (b && all)) (then_and are_read is_read _ w.if-are_read.true w.are_read-is)
                (more o name text c.loop-before.rest.now _ _ _ first _ between new before n are_read is_read all c.loop-before.invariant.takes begins
                c.in_ok-is_read-in-Ok-Some.ensures (subst (λ r. TakesBlocks o name n r between new all) (ap (λ (r : Bor (List ℕ)). r.now) w.rest-is) others))
            | else-are_read w ↦
                subst (λ b. TakesBlocks o name (before + 1 + n) text first new (b && all)) (else_and are_read is_read _ w.if-are_read.false w.are_read-is)
                (more o name text c.loop-before.rest.now _ _ _ first _ between new before n are_read is_read all c.loop-before.invariant.takes begins
                c.in_ok-is_read-in-Ok-Some.ensures (subst (λ r. TakesBlocks o name n r between new all) (ap (λ (r : Bor (List ℕ)). r.now) w.rest-is) others))
          ];
      after =
          elim c.if-are_read.branch [
            | then-are_read w ↦ after_next _ _ _ _ c.loop-before.invariant.after begins (ap (λ (r : Bor (List ℕ)). r.now) w.rest-is)
            | else-are_read w ↦ after_next _ _ _ _ c.loop-before.invariant.after begins (ap (λ (r : Bor (List ℕ)). r.now) w.rest-is)
          ];
      same = λ none. absurd (omega (arith, none));
    }

pub loop-before-init : goal.loop-before-init
loop-before-init g c = record {
  takes = λ n new all others.
      let e : n ≡ 0 + n = omega arith in
      subst (λ m. TakesBlocks c.args.options.now c.args.name.now m c.args.text.now (g.W.Write.contents c.args.out.now) new all) e others;
  after = after_none;
  same = λ none. refl;
}

pub returns-in-Ok-None-2 : goal.returns-in-Ok-None-2
returns-in-Ok-None-2 g c =
    let o = c.args.options.now in
    let text = c.args.text.now in
    let old = g.W.Write.contents c.args.out.now in
    let new = g.W.Write.contents c.refuse_file.new.out in
    let zero : c.loop-before.before ≡ 0 = omega (arith, c.if-before-gt0.false) in
    let none = rw c.in-Ok-None.field-0-is at c.in-Ok-None.ensures.ok in
    taken_not c.refuse_file.result (TellsWhy o (g.W.Write.contents c.loop-before.out) new) (TakesPem o c.args.name.now text old new) c.refuse_file.ensures.refused
    c.refuse_file.ensures.told
    (λ told.
    no_blocks (subst HasNoBlock (before_first c.loop-before.invariant.after zero) none) (subst (λ b. TellsWhy o b new) (c.loop-before.invariant.same zero) told))

pub returns-in-Err : goal.returns-in-Err
returns-in-Err g c =
    let o = c.args.options.now in
    let name = c.args.name.now in
    let text = c.args.text.now in
    let old = g.W.Write.contents c.args.out.now in
    let new = g.W.Write.contents c.refuse_file-in-Err.new.out in
    let before = c.loop-before.before in
    let some : 0 < before + 1 = omega arith in
    taken_not c.refuse_file-in-Err.result (TellsWhy o (g.W.Write.contents c.loop-before.out) new) (TakesPem o name text old new) c.refuse_file-in-Err.ensures.refused
    c.refuse_file-in-Err.ensures.told
    (λ told.
    some_blocks (before + 1) false some
    (subst (λ b. TakesBlocks o name (before + 1) text old new b) (and_false c.loop-before.are_read)
    (c.loop-before.invariant.takes 1 new false (broken_last c.in-Err.e c.in-Err.ensures.err told))))

pub returns-after-are_read : goal.returns-after-are_read
returns-after-are_read g c =
    let begins = rw c.in-Ok-Some.field-0-is at c.in-Ok-Some.ensures.ok in
    absurd (omega (arith, few_blocks (after_next _ _ _ _ c.loop-before.invariant.after begins refl)))
