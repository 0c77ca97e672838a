-- Octets that are moved up, and a header in front of them.
use Rattle.std.proofs.Common.{◌≡◌, ℕ, zero, suc, refl, map, get_or, [], ◌∷◌, ◌+◌, ◌-◌, ◌^◌, ◌<◌, ◌≤◌, List, ◌++◌, length, drop, take, sym, ap, subst, ◌∙◌, arith, append_assoc, length-append, length-drop}
use Rattle.std.proofs.Math.Seq.{take-add, take-append-add, drop-drop}
use Rattle.std.proofs.lemmas.List.{length-take-le, drop_at}
use Rattle.std.proofs.lemmas.Slice.{take-put_mid, drop-put_mid}
use Rattle.std.proofs.Math.ListN.{set}
use borrow.Rule.Slice.PartMut.{put_mid, same_len_mid, mid_len}
use Rattle.std.specs.List.{copy_within}
use Rattle.der_writer.specs.Written.{FillsTo}

-- one more octet of a list that is mapped in place
pub turned : (f : ℕ → ℕ) (i : ℕ) (l : List ℕ) → i < length l
    → set (map f (take i l) ++ drop i l) i (f (get_or (map f (take i l) ++ drop i l) i 0)) ≡ map f (take (i + 1) l) ++ drop (i + 1) l
turned f i [] h = absurd (omega arith)
turned f zero (x ∷ l) h = refl
turned f (suc i) (x ∷ l) h =
    let e : suc i + 1 ≡ suc (i + 1) = omega arith in
    rw e (ap (λ k. f x ∷ k) (turned f i l (omega arith)))

-- a header between two places, and a content after it
pub wrapped : (begin content n end : ℕ) (old mid hdr w : List ℕ) → begin + length hdr ≡ content → end ≡ content + n → end ≤ length mid
    → take begin mid ≡ take begin old → take n (drop content mid) ≡ w
    → take end (put_mid begin (content - begin) mid hdr) ≡ take begin old ++ (hdr ++ w)
wrapped begin content n end old mid hdr w e at within front moved =
    let b : length (take begin mid) ≡ begin = length-take-le begin mid (omega (arith, at)) in
    let s : end ≡ length (take begin mid) + (length hdr + n) = omega (arith, b, at) in
    let k : begin + (content - begin) ≡ content = omega arith in
    ap (λ j. take j (put_mid begin (content - begin) mid hdr)) s
    ∙ take-append-add (take begin mid) (hdr ++ drop (content - begin) (drop begin mid)) (length hdr + n)
    ∙ ap (λ l. take begin mid ++ l) (take-append-add hdr (drop (content - begin) (drop begin mid)) n
    ∙ ap (λ l. hdr ++ take n l) (drop-drop (content - begin) begin mid ∙ ap (λ j. drop j mid) k) ∙ ap (λ l. hdr ++ l) moved)
    ∙ ap (λ l. l ++ (hdr ++ w)) front

-- what a move leaves behind its end
pub behind_stays : (from to count : ℕ) (l : List ℕ) → from ≤ to → to + count ≤ length l
    → drop (to + count) (copy_within l from (from + count) to) ≡ drop (to + count) l
behind_stays from to count l up within =
    let k : from + count - from ≡ count = omega arith in
    let head : length (take to l) ≡ to = length-take-le to l (omega arith) in
    let part : length (take count (drop from l)) ≡ count = length-take-le count (drop from l) (omega (arith, length-drop from l)) in
    rw k (drop_at (take to l ++ take count (drop from l)) (drop (to + count) l) (to + count)
    (omega (arith, head, part, length-append (take to l) (take count (drop from l)))))

-- octets in the place of those between two offsets
pub fills_mid : (begin end : ℕ) (old w : List ℕ) → length old < 2 ^ 63 → end ≤ length old → begin + length w ≡ end → FillsTo end old (put_mid begin (end - begin) old w) begin w
fills_mid begin end old w small within at =
    let n : length w ≡ end - begin = omega arith in
    record {
      small = small;
      size = same_len_mid begin (end - begin) old w (n ∙ sym (mid_len begin end old within));
      filled = λ room. take-put_mid begin (end - begin) old w end (omega arith) (omega arith);
      behind = drop-put_mid begin (end - begin) old w end (omega arith) (omega arith) n;
    }

-- what stays behind a header and a content that was moved
pub behind_wrapped : (begin content n end : ℕ) (old mid hdr : List ℕ) → begin + length hdr ≡ content → end ≡ content + n → end ≤ length mid
    → drop (content + n) mid ≡ drop (content + n) old → drop end (put_mid begin (content - begin) mid hdr) ≡ drop end old
behind_wrapped begin content n end old mid hdr e at within behind =
    let P : ℕ → Type 0 = λ j. drop j mid ≡ drop j old in
    drop-put_mid begin (content - begin) mid hdr end (omega arith) (omega arith) (omega arith) ∙ subst P (sym at) behind

-- a header that is written alone in front of a content, which stays
pub headed : (begin content n end : ℕ) (old new hdr : List ℕ) → end ≡ content + n → FillsTo content old new begin hdr
    → FillsTo end old new begin (hdr ++ take n (drop content old))
headed begin content n end old new hdr at h = record {
  small = h.small;
  size = h.size;
  filled = λ within.
      ap (λ j. take j new) at ∙ take-add content n new ∙ ap (λ l. l ++ take n (drop content new)) (h.filled (omega (arith, at, within)))
      ∙ ap (λ l. take begin old ++ hdr ++ take n l) h.behind ∙ append_assoc (take begin old) hdr (take n (drop content old));
  behind =
      ap (λ j. drop j new) at ∙ sym (drop-drop n content new) ∙ ap (drop n) h.behind ∙ drop-drop n content old
      ∙ ap (λ j. drop j old) (sym at);
}
