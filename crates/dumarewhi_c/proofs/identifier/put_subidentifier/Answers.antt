use Rattle.std.proofs.Common.{◌≡◌, ℕ, zero, suc, ◌+◌, ◌-◌, ◌/◌, ◌%◌, ◌^◌, ◌<◌, ◌≤◌, List, ◌∷◌, drop, length, refl, sym, ap, subst, ◌∙◌, arith, take, take_all, length-drop}
use Rattle.std.proofs.Math.ListN.{set}
use Rattle.std.proofs.Math.Nat.{pow-suc}
use Rattle.std.proofs.lemmas.Grind.{drop-set_at}
use Rattle.std.proofs.lemmas.List.{length-set}
use Rattle.der_base.specs.Octets.{groups, groups_before}
use Rattle.c_values.specs.Texts.{PutsText}
use Rattle.der_base.proofs.Octets.Numbers.{groups_start, groups_step}
use Rattle.dumarewhi_c.proofs.identifier.put_subidentifier.Goals as goal

-- one more group in front
put : (rest begin : ℕ) (l : List ℕ) → 0 < rest → 1 ≤ begin → begin ≤ length l
    → groups_before (rest / 128) (rest / 128) (drop (begin - 1) (set l (begin - 1) (128 + rest % 128))) ≡ groups_before rest rest (drop begin l)
put rest zero l some room within = absurd (omega arith)
put rest (suc j) l some room within =
    let e : suc j - 1 + 1 ≡ suc j = omega arith in
    ap (groups_before (rest / 128) (rest / 128)) (drop-set_at l (suc j - 1) (suc j - 1) (128 + rest % 128) refl (omega arith) ∙ ap (λ i. (128 + rest % 128) ∷ drop i l) e)
    ∙ sym (groups_step rest (drop (suc j) l) some)

less_room : (rest begin : ℕ) → 0 < rest → rest < 128 ^ begin → (1 ≤ begin) × (rest / 128 < 128 ^ (begin - 1))
less_room rest zero some room = absurd (omega arith)
less_room rest (suc j) some room = (omega arith, let e : suc j - 1 ≡ j = omega arith in let q : rest / 128 < 128 ^ j = omega (arith, room, pow-suc 128 j) in omega (arith, q, ap (λ i. 128 ^ i) e))

pub loop-rest-init : goal.loop-rest-init
loop-rest-init c = record { written = sym (groups_start c.args.number); room = omega arith; within = omega arith; size = refl }

pub loop-rest-preserved : goal.loop-rest-preserved
loop-rest-preserved c =
    let h = c.loop-rest.invariant in
    let room = less_room c.loop-rest.rest c.loop-rest.begin (omega arith) h.room in
    record {
      written = put c.loop-rest.rest c.loop-rest.begin c.loop-rest.last_groups (omega arith) room.0 (omega arith) ∙ h.written;
      room = room.1;
      within = omega arith;
      size = length-set c.loop-rest.last_groups (c.loop-rest.begin - 1) (128 + c.loop-rest.rest % 128) ∙ h.size;
    }

pub returns : goal.returns
returns c =
    let last = drop c.loop-rest.begin c.loop-rest.last_groups in
    let all : last ≡ groups c.args.number = ap (λ r. groups_before r r last) (sym c.loop-rest-test.false) ∙ c.loop-rest.invariant.written in
    let short : take (19 - c.loop-rest.begin) last ≡ last = take_all (19 - c.loop-rest.begin) last (omega (arith, length-drop c.loop-rest.begin c.loop-rest.last_groups, c.loop-rest.invariant.size)) in
    subst (λ l. PutsText c.args.octets.now c.args.at l c.put_text.new.room c.put_text.result) (short ∙ all) c.put_text.ensures
