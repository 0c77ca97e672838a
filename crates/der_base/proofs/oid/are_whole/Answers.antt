use Rattle.std.proofs.Common.{◌≡◌, ℕ, ◌+◌, ◌<◌, ◌≤◌, true, List, length, drop, get_or, ap, sym, ◌∙◌, arith}
use Rattle.std.specs.Prelude.{◌&&◌, nat_le}
use Rattle.std.specs.List.{list_all}
use Rattle.std.proofs.lemmas.Bool.Decides.{nat_tests}
use Rattle.std.proofs.lemmas.List.{drop_all}
use Rattle.der_base.specs.Arcs.{subidentifiers, is_whole}
use Rattle.der_base.proofs.Oids.Arcs.{whole_after, whole_start, whole_last, whole_more, too_many, octet_at}
use Rattle.der_base.proofs.oid.are_whole.Goals as goal
use Rattle.der_base.proofs.oid.are_whole.Goals.{then-octet-lt128, else-octet-lt128+else-open-eq-MOST_BEFORE_LAST}

last : (w : List ℕ) (n k : ℕ) → n ≤ 8 → k < length w → get_or w k 0 < 128 → whole_after 0 (subidentifiers (drop (k + 1) w)) ≡ whole_after n (subidentifiers (drop k w))
last w n k few within low =
    let fits : nat_le (n + 1) 9 ≡ true = grind (arith, nat_tests) in
    whole_start (drop (k + 1) w) ∙ sym (ap (λ x. x && list_all is_whole (subidentifiers (drop (k + 1) w))) fits)
    ∙ sym (whole_last n (get_or w k 0) (drop (k + 1) w) low) ∙ ap (λ l. whole_after n (subidentifiers l)) (sym (octet_at w k within))

more : (w : List ℕ) (n k : ℕ) → k < length w → 128 ≤ get_or w k 0 → whole_after (n + 1) (subidentifiers (drop (k + 1) w)) ≡ whole_after n (subidentifiers (drop k w))
more w n k within high = sym (whole_more n (get_or w k 0) (drop (k + 1) w) high) ∙ ap (λ l. whole_after n (subidentifiers l)) (sym (octet_at w k within))

pub loop-octet-init : goal.loop-octet-init
loop-octet-init c = record { few = omega arith; rest = whole_start c.args.octets.now }

pub returns-then-open-eq-MOST_BEFORE_LAST : goal.returns-then-open-eq-MOST_BEFORE_LAST
returns-then-open-eq-MOST_BEFORE_LAST c =
    let w = c.args.octets.now in
    let k = c.loop-octet.octet-index in
    let e : c.loop-octet.open ≡ 8 = omega arith in
    sym (too_many (drop (k + 1) w)) ∙ more w 8 k (omega arith) (omega arith) ∙ ap (λ n. whole_after n (subidentifiers (drop k w))) (sym e) ∙ c.loop-octet.invariant.rest

pub loop-octet-preserved : goal.loop-octet-preserved
loop-octet-preserved c =
    let w = c.args.octets.now in
    let k = c.loop-octet.octet-index in
    elim c.if-octet-lt128.branch [
      | then-octet-lt128 v ↦ record {
        few = omega arith;
        rest = ap (λ n. whole_after n (subidentifiers (drop (k + 1) w))) v.open-is ∙ last w c.loop-octet.open k (omega arith) (omega arith) (omega arith) ∙ c.loop-octet.invariant.rest;
      }
      | else-octet-lt128+else-open-eq-MOST_BEFORE_LAST v ↦ record {
        few = omega arith;
        rest = ap (λ n. whole_after n (subidentifiers (drop (k + 1) w))) v.open-is ∙ more w c.loop-octet.open k (omega arith) (omega arith) ∙ c.loop-octet.invariant.rest;
      }
    ]

pub returns : goal.returns
returns c =
    let w = c.args.octets.now in
    ap (λ l. whole_after c.loop-octet.open (subidentifiers l)) (sym (drop_all c.loop-octet.octet-index w (omega arith))) ∙ c.loop-octet.invariant.rest
