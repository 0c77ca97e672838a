use Rattle.std.proofs.Common.{◌≡◌, ℕ, zero, suc, ◌+◌, ◌-◌, ◌/◌, ◌%◌, ◌<◌, ◌≤◌, List, [], ◌∷◌, ◌++◌, drop, length, refl, sym, ap, ◌∙◌, arith, length-append, length-drop}
use Rattle.std.proofs.Math.ListN.{set}
use Rattle.std.proofs.lemmas.Grind.{drop-set_at}
use Rattle.std.proofs.lemmas.List.{length-set}
use Rattle.der_base.specs.Octets.{groups_before, groups}
use Rattle.der_base.proofs.Octets.Numbers.{groups_start, groups_step}
use Rattle.der_values.proofs.octets.header.write_groups.Goals as goal
use Rattle.der_base.proofs.Octets.Identifiers.{groups_append}

groups_longer : (m n : ℕ) (after : List ℕ) → length after ≤ length (groups_before m n after)
groups_longer zero n after = omega arith
groups_longer (suc m) zero after = omega arith
groups_longer (suc m) (suc n) after = omega (arith, groups_longer m (suc n / 128) ((128 + suc n % 128) ∷ after))

groups_some : (n : ℕ) → 1 ≤ length (groups n)
groups_some n = groups_longer n (n / 128) ((n % 128) ∷ [])

set_front : (begin x : ℕ) (l : List ℕ) → 1 ≤ begin → begin ≤ length l → drop (begin - 1) (set l (begin - 1) x) ≡ x ∷ drop begin l
set_front zero x l some within = absurd (omega arith)
set_front (suc j) x l some within =
    let e : suc j - 1 + 1 ≡ suc j = omega arith in
    drop-set_at l (suc j - 1) (suc j - 1) x refl (omega arith) ∙ ap (λ i. x ∷ drop i l) e

-- one more group in front
put : (rest begin : ℕ) (l : List ℕ) → 0 < rest → 1 ≤ begin → begin ≤ length l
    → groups_before (rest / 128) (rest / 128) (drop (begin - 1) (set l (begin - 1) (128 + rest % 128))) ≡ groups_before rest rest (drop begin l)
put rest begin l some room within =
    ap (groups_before (rest / 128) (rest / 128)) (set_front begin (128 + rest % 128) l room within) ∙ sym (groups_step rest (drop begin l) some)

-- the room in front, by what is written
room_left : (rest begin end n : ℕ) (l old : List ℕ) → groups_before rest rest (drop begin l) ≡ groups n ++ drop end old
    → length l ≡ length old → begin ≤ end → end ≤ length old → length (groups n) ≤ end → 0 < rest → 1 ≤ begin
room_left rest begin end n l old e same within most room some =
    let longer = groups_longer (rest / 128) (rest / 128) ((128 + rest % 128) ∷ drop begin l) in
    omega (arith, longer, ap length (groups_step rest (drop begin l) some), ap length e, length-append (groups n) (drop end old), length-drop begin l, length-drop end old)

-- where octets begin that stand in front of the rest
whole : (begin end : ℕ) (l old w : List ℕ) → drop begin l ≡ w ++ drop end old → length l ≡ length old → begin ≤ end → end ≤ length old → begin + length w ≡ end
whole begin end l old w e same within most = omega (arith, ap length e, length-append w (drop end old), length-drop begin l, length-drop end old)

pub overflow_sub-begin : goal.overflow_sub-begin
overflow_sub-begin c = omega (arith, groups_some c.args.n)

pub bounds-out-begin : goal.bounds-out-begin
bounds-out-begin c = omega (arith, groups_some c.args.n)

pub loop-rest-init : goal.loop-rest-init
loop-rest-init c =
    let n = c.args.n in
    let old = c.args.out.now in
    let some = groups_some n in
    let front = set_front c.args.end (n % 128) old (omega (arith, some)) (omega arith) in
    record {
      written =
          ap (groups_before (n / 128) (n / 128)) front ∙ sym (groups_append (n / 128) (n / 128) ((n % 128) ∷ []) (drop c.args.end old))
          ∙ ap (λ g. g ++ drop c.args.end old) (sym (groups_start n));
      within = omega arith;
      size = length-set old (c.args.end - 1) (n % 128);
    }

pub overflow_sub-begin-in-loop-rest : goal.overflow_sub-begin-in-loop-rest
overflow_sub-begin-in-loop-rest c =
    let h = c.loop-rest.invariant in
    room_left c.loop-rest.rest c.loop-rest.begin c.args.end c.args.n c.loop-rest.out c.args.out.now h.written h.size h.within (omega arith) (omega arith) (omega arith)

pub bounds-out-begin-in-loop-rest : goal.bounds-out-begin-in-loop-rest
bounds-out-begin-in-loop-rest c =
    let h = c.loop-rest.invariant in
    let room = room_left c.loop-rest.rest c.loop-rest.begin c.args.end c.args.n c.loop-rest.out c.args.out.now h.written h.size h.within (omega arith) (omega arith) (omega arith) in
    omega (arith, room)

pub loop-rest-preserved : goal.loop-rest-preserved
loop-rest-preserved c =
    let h = c.loop-rest.invariant in
    let room = room_left c.loop-rest.rest c.loop-rest.begin c.args.end c.args.n c.loop-rest.out c.args.out.now h.written h.size h.within (omega arith) (omega arith) (omega arith) in
    record {
      written = put c.loop-rest.rest c.loop-rest.begin c.loop-rest.out (omega arith) room (omega arith) ∙ h.written;
      within = omega arith;
      size = length-set c.loop-rest.out (c.loop-rest.begin - 1) (128 + c.loop-rest.rest % 128) ∙ h.size;
    }

pub returns : goal.returns
returns c =
    let h = c.loop-rest.invariant in
    let e : drop c.loop-rest.begin c.loop-rest.out ≡ groups c.args.n ++ drop c.args.end c.args.out.now =
    ap (λ r. groups_before r r (drop c.loop-rest.begin c.loop-rest.out)) (sym c.loop-rest-test.false) ∙ h.written in
    record { begins = whole c.loop-rest.begin c.args.end c.loop-rest.out c.args.out.now (groups c.args.n) e h.size h.within (omega arith); octets = e }
