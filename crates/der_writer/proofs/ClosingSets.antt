-- A SET OF whose elements are sorted before it is closed.
use Rattle.std.proofs.Common.{◌≡◌, ℕ, ◌+◌, ◌-◌, ◌^◌, ◌<◌, ◌≤◌, List, ◌++◌, length, take, drop, min, refl, sym, ap, ◌∙◌, arith, length-append}
use Rattle.std.proofs.lemmas.List.Elements.{recursion_from_All}
use Rattle.std.specs.List.{AllByRecursion, concat}
use Rattle.der_writer.specs.declared.writer.Mark.{Mark}
use Rattle.der_writer.specs.declared.writer.Writer.{Writer}
use Rattle.der_writer.specs.Inner.Sorting.{sorted, SortsBetween}
use Rattle.der_writer.specs.SetsOf.{IsElement, ClosesSetOf}
use Rattle.der_writer.specs.Written.{HasWritten, IsAfter, IsInnermost, KeepsBuffer, Closes, reserved}
use Rattle.der_writer.proofs.Composing.{keeps_both}
use Rattle.der_writer.proofs.Sorting.{in_order, size_sorted}

-- the content of the mark's element is sorted
record Ordered (m : Mark) (old new : Writer) : Type 0 where
  keeps : KeepsBuffer old new
  level : new.innermost ≡ old.innermost
  written : (before : List ℕ) (ss : List (List ℕ)) → AllByRecursion IsElement ss → IsInnermost m old → IsAfter before m
      → HasWritten (before ++ reserved ++ concat ss) old → HasWritten (before ++ reserved ++ concat (sorted ss)) new

closes_ordered : (m : Mark) (a b c : Writer) → Ordered m a b → Closes m b c → ClosesSetOf m a c
closes_ordered m a b c o l = record {
  keeps = keeps_both a b c o.keeps l.keeps;
  plain = l.plain;
  closed = λ e. l.closed (o.level ∙ e);
  stays = λ n. l.stays (λ e. n (sym o.level ∙ e)) ∙ o.level;
  written = λ ss e. (
    sorted ss,
    in_order ss,
    λ before inner after held.
        l.written before (concat (sorted ss)) (o.level ∙ inner) after (o.written before ss (recursion_from_All IsElement ss e) inner after held),
  );
}

ordered : (m : Mark) (a b : Writer) (begin : ℕ) → b.out.ghost_name ≡ a.out.ghost_name → b.count ≡ a.count → b.innermost ≡ a.innermost
    → begin ≡ min (m.start + 1) (2 ^ 64 - 1) → length a.out.now < 2 ^ 63 → SortsBetween begin a.count a.out.now b.out.now → Ordered m a b
ordered m a b begin same counts level at small h = record {
  keeps = record {
    same = same;
    size = h.size;
    behind = ap (λ j. drop j b.out.now) counts ∙ h.behind ∙ ap (λ j. drop j a.out.now) (sym counts);
    grows = omega (arith, counts);
  };
  level = level;
  written = λ before ss e inner after held.
      let size : (l : List ℕ) → length (before ++ reserved ++ l) ≡ length before + 1 + length l = λ l. omega (arith, length-append (before ++ reserved) l, length-append before reserved) in
      let own : length (before ++ reserved ++ concat (sorted ss)) ≡ length (before ++ reserved ++ concat ss) = omega (arith, size (concat ss), size (concat (sorted ss)), size_sorted ss) in
      record {
        counted = omega (arith, counts, held.counted, own);
        held = λ room.
            let within : length (before ++ reserved ++ concat ss) ≤ length a.out.now = omega (arith, room, own, h.size) in
            let count : a.count ≡ length (before ++ reserved ++ concat ss) = omega (arith, held.counted, within, small) in
            let first : begin ≡ length (before ++ reserved) = omega (arith, at, after, within, small, size (concat ss), length-append before reserved) in
            let end : a.count ≡ begin + length (concat ss) = omega (arith, count, first, length-append (before ++ reserved) (concat ss)) in
            let old : take a.count a.out.now ≡ before ++ reserved ++ concat ss = ap (λ j. take j a.out.now) count ∙ held.held within in
            let new : take a.count b.out.now ≡ before ++ reserved ++ concat (sorted ss) = h.sorts (before ++ reserved) ss e first end (omega (arith, count, within)) old in
            ap (λ j. take j b.out.now) (own ∙ sym count) ∙ new;
      };
}

-- it is the innermost one
pub closes_sorted : (m : Mark) (a b c : Writer) (begin : ℕ) → b.out.ghost_name ≡ a.out.ghost_name → b.count ≡ a.count → b.innermost ≡ a.innermost
    → begin ≡ min (m.start + 1) (2 ^ 64 - 1) → length a.out.now < 2 ^ 63 → SortsBetween begin a.count a.out.now b.out.now → Closes m b c → ClosesSetOf m a c
closes_sorted m a b c begin same counts level at small h l = closes_ordered m a b c (ordered m a b begin same counts level at small h) l

-- it isn't
pub closes_other : (m : Mark) (a c : Writer) → ¬ IsInnermost m a → Closes m a c → ClosesSetOf m a c
closes_other m a c other l = closes_ordered m a a c (record {
  keeps = record { same = refl; size = refl; behind = refl; grows = omega arith };
  level = refl;
  written = λ before ss e inner. absurd (other inner);
}) l
