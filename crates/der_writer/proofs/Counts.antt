-- Counts that stop, and what a buffer holds where it has room.
use Rattle.std.proofs.Common.{◌≡◌, ℕ, ◌+◌, ◌-◌, ◌^◌, ◌<◌, ◌≤◌, List, [], ◌∷◌, ◌++◌, length, drop, take, min, refl, ⊎_elim, sym, ap, subst, ◌∙◌, arith, append_assoc, length-append}
use Rattle.std.proofs.Math.Seq.{drop-drop}
use Rattle.std.proofs.lemmas.Bool.{cases_lt}
use Rattle.std.proofs.lemmas.List.{take_at, drop_at, take-take, drop-take}
use Rattle.der_base.specs.Octets.{shortest_length}
use Rattle.der_writer.specs.declared.writer.Writer.{Writer}
use Rattle.der_writer.specs.Written.{IsCount, IsPlain, HasWritten, Puts, EndsContent, FillsTo, reserved}
use Rattle.der_base.proofs.Octets.Shortest.{length_short}
use Rattle.der_writer.proofs.Headers.{length_some}
use Rattle.der_writer.proofs.Moves.{headed}

-- what stays behind a place stays behind a further one
pub further : (m n : ℕ) (x y : List ℕ) → m ≤ n → drop m x ≡ drop m y → drop n x ≡ drop n y
further m n x y h e =
    let k : m + (n - m) ≡ n = omega arith in
    let P : ℕ → Type 0 = λ j. drop j x ≡ drop j y in
    subst P k (sym (drop-drop (n - m) m x) ∙ ap (drop (n - m)) e ∙ drop-drop (n - m) m y)

-- octets after those that were written
pub puts_filled : (old new : Writer) (e : List ℕ) (size : ℕ) → new.out.ghost_name ≡ old.out.ghost_name → IsPlain new → new.innermost ≡ old.innermost
    → old.count < 2 ^ 64 → IsCount size (length e) → new.count ≡ min (old.count + size) (2 ^ 64 - 1)
    → FillsTo new.count old.out.now new.out.now old.count e → Puts e old new
puts_filled old new e size same plain level few sized counted fills = record {
  keeps = record { same = same; size = fills.size; behind = fills.behind; grows = omega (arith, few, counted) };
  plain = plain;
  level = level;
  written = written;
}
  where
    written : (w : List ℕ) → HasWritten w old → HasWritten (w ++ e) new
    written w h = record {
      counted = omega (arith, h.counted, sized, counted, length-append w e);
      held = λ room.
          let n : old.count ≡ length w = omega (arith, h.counted, sized, counted, length-append w e, fills.small, fills.size) in
          let n' : new.count ≡ length (w ++ e) = omega (arith, h.counted, sized, counted, length-append w e, fills.small, fills.size) in
          let before : take (length w) old.out.now ≡ w = h.held (omega (arith, length-append w e, fills.size)) in
          let all : take (length (w ++ e)) new.out.now ≡ take (length w) old.out.now ++ e = rw (← n', ← n) (fills.filled (omega (arith, fills.size))) in
          all ∙ ap (λ l. l ++ e) before;
    }

-- octets, and others behind them
pub fills_both : (old mid new : List ℕ) (begin i end : ℕ) (v w : List ℕ) → i ≤ end → end ≤ length old → FillsTo i old mid begin v → FillsTo end mid new i w
    → FillsTo end old new begin (v ++ w)
fills_both old mid new begin i end v w up within h k = record {
  small = h.small;
  size = k.size ∙ h.size;
  filled = λ room. k.filled (omega (arith, within, h.size)) ∙ ap (λ l. l ++ w) (h.filled (omega (arith, up, within))) ∙ append_assoc (take begin old) v w;
  behind = k.behind ∙ further i end mid old up h.behind;
}

-- the octets of what is open, apart
opened : (b n : ℕ) (l before content hdr : List ℕ) → b ≡ length before → n ≡ length content → take (b + 1 + n) l ≡ before ++ reserved ++ content
    → take b l ++ (hdr ++ take n (drop (b + 1) l)) ≡ before ++ (hdr ++ content)
opened b n l before content hdr eb en e =
    let front : take b l ≡ before =
    sym (take-take b (b + 1 + n) l (omega arith)) ∙ ap (take b) e ∙ ap (take b) (append_assoc before reserved content)
    ∙ take_at before (reserved ++ content) b (sym eb) in
    let behind : take n (drop (b + 1) l) ≡ content =
    sym (drop-take (b + 1) n l) ∙ ap (drop (b + 1)) e
    ∙ drop_at (before ++ reserved) content (b + 1) (omega (arith, length-append before reserved, eb)) in
    ap (λ x. x ++ (hdr ++ take n (drop (b + 1) l))) front ∙ ap (λ x. before ++ (hdr ++ x)) behind

-- what is open becomes the content of an element
pub ends_filled : (start : ℕ) (old new : Writer) (size n h : ℕ) → new.out.ghost_name ≡ old.out.ghost_name → new.implicit ≡ old.implicit → new.innermost ≡ old.innermost
    → old.count < 2 ^ 64 → size ≡ old.count - start → n ≡ size - 1 → h ≡ length (shortest_length n)
    → new.count ≡ min (min (old.count - size + h) (2 ^ 64 - 1) + n) (2 ^ 64 - 1)
    → FillsTo new.count old.out.now new.out.now (old.count - size) (shortest_length n ++ take n (drop (old.count - size + 1) old.out.now))
    → EndsContent start old new
ends_filled start old new size n h same tag level few sized contents headed counted fills = record {
  keeps = record { same = same; size = fills.size; behind = fills.behind; grows = grows };
  tag = tag;
  level = level;
  written = written;
}
  where
    grows : old.count ≤ new.count
    grows = let own : 1 ≤ h = rw headed (length_some n) in omega (arith, few, sized, contents, counted, own)

    size_of : (before content : List ℕ) → length (before ++ (shortest_length (length content) ++ content))
        ≡ length before + length (shortest_length (length content)) + length content
    size_of before content =
        omega (arith, length-append before (shortest_length (length content) ++ content), length-append (shortest_length (length content)) content)

    size_open : (before content : List ℕ) → length (before ++ reserved ++ content) ≡ length before + 1 + length content
    size_open before content = omega (arith, length-append (before ++ reserved) content, length-append before reserved)

    -- all is counted
    within : (before content : List ℕ) → IsCount start (length before) → HasWritten (before ++ reserved ++ content) old
        → length before + 1 + length content < 2 ^ 64 - 1 → HasWritten (before ++ (shortest_length (length content) ++ content)) new
    within before content after held few =
        let before_is : old.count - size ≡ length before = omega (arith, after, held.counted, size_open before content, sized) in
        let content_is : n ≡ length content = omega (arith, after, held.counted, size_open before content, sized, contents) in
        let header_is : h ≡ length (shortest_length (length content)) = rw (← content_is) headed in
        let counts : new.count ≡ min (length (before ++ (shortest_length (length content) ++ content))) (2 ^ 64 - 1) =
        omega (arith, size_of before content, header_is, before_is, content_is, counted) in
        record {
          counted = counts;
          held = λ room.
              let exact : new.count ≡ length (before ++ (shortest_length (length content) ++ content)) = omega (arith, counts, room, fills.small, fills.size) in
              let two : 1 ≤ length (shortest_length (length content)) = length_some (length content) in
              let open_is : take (length before + 1 + length content) old.out.now ≡ before ++ reserved ++ content =
              rw (← size_open before content) (held.held (omega (arith, size_of before content, size_open before content, two, fills.size))) in
              let all : take (length (before ++ (shortest_length (length content) ++ content))) new.out.now
              ≡ take (length before) old.out.now ++ (shortest_length (length content) ++ take (length content) (drop (length before + 1) old.out.now)) =
              rw (← exact, ← before_is, ← content_is) (fills.filled (omega (arith, exact, fills.size))) in
              all ∙ opened (length before) (length content) old.out.now before content (shortest_length (length content)) refl refl open_is;
        }

    -- the counts are at their end
    beyond : (before content : List ℕ) → HasWritten (before ++ reserved ++ content) old
        → 2 ^ 64 - 1 ≤ length before + 1 + length content → HasWritten (before ++ (shortest_length (length content) ++ content)) new
    beyond before content held many =
        let two : 1 ≤ length (shortest_length (length content)) = length_some (length content) in
        let own : 1 ≤ h = rw headed (length_some n) in
        let end : old.count ≡ 2 ^ 64 - 1 = omega (arith, held.counted, size_open before content) in
        let ended : new.count ≡ 2 ^ 64 - 1 = omega (arith, end, own, sized, contents, counted) in
        record {
          counted = omega (arith, ended, two, size_of before content);
          held = λ room. absurd (omega (arith, room, two, size_of before content, fills.small, fills.size));
        }

    written : (before content : List ℕ) → IsCount start (length before) → HasWritten (before ++ reserved ++ content) old
        → HasWritten (before ++ (shortest_length (length content) ++ content)) new
    written before content after held =
        ⊎_elim
        (λ few. within before content after held few)
        (λ many. beyond before content held many)
        (cases_lt (length before + 1 + length content) (2 ^ 64 - 1))

-- the same of a content whose length has one octet, which is set in place
pub ends_short : (start : ℕ) (old new : Writer) (n : ℕ) → new.out.ghost_name ≡ old.out.ghost_name → new.implicit ≡ old.implicit → new.innermost ≡ old.innermost
    → new.count ≡ old.count → old.count < 2 ^ 64 → old.count ≡ start + 1 + n → n < 128
    → FillsTo (start + 1) old.out.now new.out.now start (n ∷ []) → EndsContent start old new
ends_short start old new n same tag level stays few at short fills =
    let begin : old.count - (n + 1) ≡ start = omega (arith, at) in
    let one : 1 ≡ length (shortest_length n) = ap length (sym (length_short n short)) in
    let P : List ℕ → Type 0 = λ l. FillsTo new.count old.out.now new.out.now start (l ++ take n (drop (start + 1) old.out.now)) in
    let filled : FillsTo new.count old.out.now new.out.now start (shortest_length n ++ take n (drop (start + 1) old.out.now)) =
    subst P (sym (length_short n short)) (headed start (start + 1) n new.count old.out.now new.out.now (n ∷ []) (omega (arith, stays, at)) fills) in
    let Q : ℕ → Type 0 = λ j. FillsTo new.count old.out.now new.out.now j (shortest_length n ++ take n (drop (j + 1) old.out.now)) in
    ends_filled start old new (n + 1) n 1 same tag level few (omega (arith, at)) (omega arith) one (omega (arith, stays, few, at)) (subst Q (sym begin) filled)
