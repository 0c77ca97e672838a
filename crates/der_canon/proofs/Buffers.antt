-- Octets in a buffer.
use Rattle.std.proofs.Common.{◌≡◌, ℕ, ◌+◌, ◌-◌, ◌^◌, ◌<◌, ◌≤◌, List, [], ◌∷◌, ◌++◌, length, drop, take, min, refl, sym, ap, subst, ◌∙◌, arith, append_assoc, length-append, ⊎_elim}
use Rattle.std.proofs.lemmas.Bool.{cases_lt}
use Rattle.std.proofs.lemmas.List.{append-nil, take_at, drop_at, take-take, drop-take, take-append-drop}
use Rattle.der_base.specs.Octets.{shortest_length}
use Rattle.der_writer.specs.Written.{FillsTo}
use Rattle.der_writer.proofs.Headers.{length_some}
use Rattle.der_canon.specs.declared.writer.Writer.{Writer}
use Rattle.der_canon.specs.Contents.{Completes, sized, close}
use Rattle.der_canon.specs.Same.{with_first}
use Rattle.der_canon.specs.Writing.{HasStarts, HasWritten, Holds, Puts, PutsLength, all_octets}
use Rattle.der_canon.proofs.OneSize.{last_one}

-- what a buffer with room holds
abbrev Fits : List ℕ → ℕ → List ℕ → Type 0
Fits w n out = length w ≤ length out → (n ≡ length w) × (take n out ≡ w)

pub puts_filled : (a b : Writer) (old new e : List ℕ) → b.starts ≡ a.starts → b.end ≡ min (a.end + length e) (2 ^ 64 - 1) → FillsTo b.end old new a.end e → Puts e a old b new
puts_filled a b old new e same counted fills = record {
  size = fills.size;
  starts = same;
  held = λ w h. (
    λ room.
        let fits : length w ≤ length old = omega (arith, length-append w e, room, fills.size) in
        let n : a.end ≡ length w = (h.0 fits).0 in
        let m : b.end ≡ length (w ++ e) = omega (arith, n, length-append w e, counted, room, fills.small, fills.size) in
        (m, fills.filled (omega (arith, m, room, fills.size)) ∙ ap (λ l. l ++ e) (h.0 fits).1),
    λ more. ⊎_elim
        (λ many. omega (arith, h.1 many, counted, fills.size, fills.small))
        (λ fits. omega (arith, (h.0 fits).0, length-append w e, counted, more, fills.size, fills.small))
        (cases_lt (length old) (length w)),
  );
}

pub puts_none : (a : Writer) (old : List ℕ) → Puts [] a old a old
puts_none a old = record { size = refl; starts = refl; held = λ w h. subst (λ l. Holds l a.end old) (sym (append-nil w)) h }

pub puts_both : (e f : List ℕ) (a b c : Writer) (o p q : List ℕ) → Puts e a o b p → Puts f b p c q → Puts (e ++ f) a o c q
puts_both e f a b c o p q h k = record {
  size = k.size ∙ h.size;
  starts = k.starts ∙ h.starts;
  held = λ w g. subst (λ l. Holds l c.end q) (append_assoc w e f) (k.held (w ++ e) (h.held w g));
}

-- the octets of what goes on, apart
front_of : (b n : ℕ) (m : ℕ) (l w x : List ℕ) → b ≡ length w → take (b + 1 + m) l ≡ w ++ n ∷ x → take b l ≡ w
front_of b n m l w x eb e = sym (take-take b (b + 1 + m) l (omega arith)) ∙ ap (take b) e ∙ take_at w (n ∷ x) b (sym eb)

rest_of : (b n : ℕ) (m : ℕ) (l w x : List ℕ) → b ≡ length w → take (b + 1 + m) l ≡ w ++ n ∷ x → take m (drop (b + 1) l) ≡ x
rest_of b n m l w x eb e =
    sym (drop-take (b + 1) m l) ∙ ap (drop (b + 1)) (e ∙ sym (append_assoc w (n ∷ []) x)) ∙ drop_at (w ++ n ∷ []) x (b + 1) (omega (arith, length-append w (n ∷ []), eb))

pub length_put : (start : ℕ) (a b : Writer) (old new : List ℕ) (size n h : ℕ) → b.starts ≡ a.starts → size ≡ a.end - start → n ≡ size - 1 → h ≡ length (shortest_length n)
    → b.end ≡ min (min (a.end - size + h) (2 ^ 64 - 1) + n) (2 ^ 64 - 1)
    → FillsTo b.end old new (a.end - size) (shortest_length n ++ take n (drop (a.end - size + 1) old)) → PutsLength start a old b new
length_put start a b old new size n h same sized_is contents headed counted fills = record { size = fills.size; starts = same; held = held }
  where
    own : 1 ≤ h
    own = rw headed (length_some n)

    beyond : (w x : List ℕ) → (length (w ++ 0 ∷ x) ≤ length old → start ≡ length w) → Fits (w ++ 0 ∷ x) a.end old
        → length (w ++ 0 ∷ x) ≤ length old → length new < length (w ++ sized x) → length new < b.end
    beyond w x at g fits more =
        let before = length-append w (0 ∷ x) in
        let s : start ≡ length w = at fits in
        let e : a.end ≡ length (w ++ 0 ∷ x) = (g fits).0 in
        let place : a.end - size ≡ length w = omega (arith, s, e, before, sized_is) in
        let count : n ≡ length x = omega (arith, s, e, before, sized_is, contents) in
        let header : h ≡ length (shortest_length (length x)) = rw (← count) headed in
        omega (arith, counted, place, count, header, more, length-append w (sized x), length-append (shortest_length (length x)) x, fills.small, fills.size)

    fitting : (w x : List ℕ) → (length (w ++ 0 ∷ x) ≤ length old → start ≡ length w) → Fits (w ++ 0 ∷ x) a.end old
        → Fits (w ++ sized x) b.end new
    fitting w x at g room =
        let before = length-append w (0 ∷ x) in
        let after = length-append w (sized x) in
        let inner = length-append (shortest_length (length x)) x in
        let some : 1 ≤ length (shortest_length (length x)) = length_some (length x) in
        let fits : length (w ++ 0 ∷ x) ≤ length old = omega (arith, room, fills.size, before, after, inner, some) in
        let s : start ≡ length w = at fits in
        let e : a.end ≡ length (w ++ 0 ∷ x) = (g fits).0 in
        let place : a.end - size ≡ length w = omega (arith, s, e, before, sized_is) in
        let count : n ≡ length x = omega (arith, s, e, before, sized_is, contents) in
        let header : h ≡ length (shortest_length (length x)) = rw (← count) headed in
        let end : b.end ≡ length (w ++ sized x) = omega (arith, counted, place, count, header, after, inner, room, fills.small, fills.size) in
        let goes_on : a.end ≡ length w + 1 + length x = omega (arith, e, before) in
        let held_open : take (length w + 1 + length x) old ≡ w ++ 0 ∷ x = subst (λ k. take k old ≡ w ++ 0 ∷ x) goes_on (g fits).1 in
        let front : take (length w) old ≡ w = front_of (length w) 0 (length x) old w x refl held_open in
        let rest : take (length x) (drop (length w + 1) old) ≡ x = rest_of (length w) 0 (length x) old w x refl held_open in
        let all : take b.end new ≡ take (length w) old ++ (shortest_length (length x) ++ take (length x) (drop (length w + 1) old)) =
        rw (← place, ← count) (fills.filled (omega (arith, end, room, fills.size))) in
        (end, all ∙ ap (λ l. l ++ (shortest_length (length x) ++ take (length x) (drop (length w + 1) old))) front ∙ ap (λ l. w ++ (shortest_length (length x) ++ l)) rest)

    held : (w x : List ℕ) → (length (w ++ 0 ∷ x) ≤ length old → start ≡ length w) → Holds (w ++ 0 ∷ x) a.end old → Holds (w ++ sized x) b.end new
    held w x at g = (
      fitting w x at g.0,
      λ more. ⊎_elim
          (λ many. omega (arith, g.1 many, sized_is, contents, own, counted, fills.size, fills.small))
          (λ fits. beyond w x at g.0 fits more)
          (cases_lt (length old) (length (w ++ 0 ∷ x))),
    )

-- more octets of the innermost content
pub octets_more : (xs : List (List ℕ)) (x e : List ℕ) → all_octets xs (x ++ e) ≡ all_octets xs x ++ e
octets_more [] x e = refl
octets_more (z ∷ zs) x e = ap (all_octets zs) (sym (append_assoc z (0 ∷ x) e)) ∙ octets_more zs (z ++ 0 ∷ x) e

pub written_more : (xs : List (List ℕ)) (x e : List ℕ) (a b : Writer) (o p : List ℕ) → HasWritten xs x a o → Puts e a o b p → HasWritten xs (x ++ e) b p
written_more xs x e a b o p h k = record {
  count = ap (λ v. length v.items) k.starts ∙ h.count;
  held = subst (λ l. Holds l b.end p) (sym (octets_more xs x e)) (k.held (all_octets xs x) h.held);
  starts = λ room.
      subst (λ v. HasStarts xs v.items) (sym k.starts) (h.starts (omega (arith, k.size, room, ap length (octets_more xs x e), length-append (all_octets xs x) e)));
}

-- a content begins
pub written_begun : (xs : List (List ℕ)) (x : List ℕ) (a b c : Writer) (o p : List ℕ) → HasWritten xs x a o → Puts (0 ∷ []) a o b p → c.end ≡ b.end
    → c.starts.items ≡ b.starts.items ++ a.end ∷ [] → HasWritten (x ∷ xs) [] c p
written_begun xs x a b c o p h k same pushed =
    let w = all_octets xs x in
    let all : all_octets xs (x ++ 0 ∷ []) ≡ w ++ 0 ∷ [] = octets_more xs x (0 ∷ []) in
    record {
      count = omega (arith, ap length pushed, length-append b.starts.items (a.end ∷ []), ap (λ v. length v.items) k.starts, h.count);
      held = subst (λ n. Holds (all_octets xs (x ++ 0 ∷ [])) n p) (sym same) (subst (λ l. Holds l b.end p) (sym all) (k.held w h.held));
      starts = λ room.
          let fits : length w ≤ length o = omega (arith, k.size, room, ap length all, length-append w (0 ∷ [])) in
          (a.end, b.starts.items, pushed, (h.held.0 fits).0, subst (λ v. HasStarts xs v.items) (sym k.starts) (h.starts fits));
    }

-- the innermost content ends
pub written_ended : (z x : List ℕ) (zs : List (List ℕ)) (s a b : Writer) (o p : List ℕ) (n : ℕ) → HasWritten (z ∷ zs) x s o → s.starts.items ≡ a.starts.items ++ n ∷ []
    → a.end ≡ s.end → PutsLength n a o b p → HasWritten zs (z ++ sized x) b p
written_ended z x zs s a b o p n h popped same k = record {
  count = omega (arith, h.count, ap length popped, length-append a.starts.items (n ∷ []), ap (λ v. length v.items) k.starts);
  held = subst (λ l. Holds l b.end p) (sym done)
      (k.held (all_octets zs z) x (λ room. (at room).0) (subst (λ m. Holds (all_octets zs z ++ 0 ∷ x) m o) (sym same) (subst (λ l. Holds l s.end o) before h.held)));
  starts = λ room.
      let w = all_octets zs z in
      let fits : length (w ++ 0 ∷ x) ≤ length o =
      omega (arith, room, k.size, ap length done, length-append w (0 ∷ x), length-append w (sized x), length-append (shortest_length (length x)) x, length_some (length x)) in
      subst (λ v. HasStarts zs v.items) (sym k.starts) (at fits).1;
}
  where
    before : all_octets zs (z ++ 0 ∷ x) ≡ all_octets zs z ++ 0 ∷ x
    before = octets_more zs z (0 ∷ x)

    done : all_octets zs (z ++ sized x) ≡ all_octets zs z ++ sized x
    done = octets_more zs z (sized x)

    at : length (all_octets zs z ++ 0 ∷ x) ≤ length o → (n ≡ length (all_octets zs z)) × HasStarts zs a.starts.items
    at room =
        let q = h.starts (omega (arith, room, ap length before)) in
        let last = last_one a.starts.items q.1 n q.0 (sym popped ∙ q.2) in
        (last.1 ∙ q.3, subst (λ l. HasStarts zs l) (sym last.0) q.4)

-- the first octet of the innermost content
take_two : (m n : ℕ) (l : List ℕ) → take m l ++ take n (drop m l) ≡ take (m + n) l
take_two m n l =
    let t = take (m + n) l in
    sym (sym (take-append-drop m t) ∙ ap (λ v. v ++ drop m t) (take-take m (m + n) l (omega arith)) ∙ ap (λ v. take m l ++ v) (drop-take m n l))

length_first : (u : ℕ) (x : List ℕ) → length (with_first u x) ≡ length x
length_first u [] = refl
length_first u (n ∷ x) = refl

pub length_all : (xs : List (List ℕ)) (x : List ℕ) → length (all_octets xs x) ≡ length (all_octets xs []) + length x
length_all xs x = ap length (octets_more xs [] x) ∙ length-append (all_octets xs []) x

first_fits : (xs : List (List ℕ)) (x : List ℕ) (u begin end : ℕ) (old new : List ℕ) → Fits (all_octets xs x) end old
    → (length (all_octets xs x) ≤ length old → begin ≡ length (all_octets xs [])) → begin < end → FillsTo (begin + 1) old new begin (u ∷ [])
    → Fits (all_octets xs (with_first u x)) end new
first_fits xs [] u begin end old new h at inside fills room =
    let fits : length (all_octets xs []) ≤ length old = omega (arith, room, fills.size) in
    absurd (omega (arith, at fits, (h fits).0, inside))
first_fits xs (n ∷ x) u begin end old new h at inside fills room =
    let w = all_octets xs [] in
    let fits : length (all_octets xs (n ∷ x)) ≤ length old = omega (arith, room, fills.size, length_all xs (n ∷ x), length_all xs (u ∷ x)) in
    let b : begin ≡ length w = at fits in
    let e : end ≡ begin + 1 + length x = omega (arith, b, (h fits).0, length_all xs (n ∷ x)) in
    let before : take (begin + 1 + length x) old ≡ w ++ n ∷ x = subst (λ k. take k old ≡ all_octets xs (n ∷ x)) e (h fits).1 ∙ octets_more xs [] (n ∷ x) in
    let first : take (begin + 1) new ≡ w ++ u ∷ [] =
    fills.filled (omega (arith, e, fits, (h fits).0)) ∙ ap (λ l. l ++ u ∷ []) (front_of begin n (length x) old w x b before) in
    let rest : take (length x) (drop (begin + 1) new) ≡ x = ap (take (length x)) fills.behind ∙ rest_of begin n (length x) old w x b before in (
      omega (arith, (h fits).0, length_all xs (n ∷ x), length_all xs (u ∷ x)),
      ap (λ k. take k new) e ∙ sym (take_two (begin + 1) (length x) new) ∙ ap (λ l. l ++ take (length x) (drop (begin + 1) new)) first
          ∙ ap (λ l. (w ++ u ∷ []) ++ l) rest ∙ append_assoc w (u ∷ []) x ∙ sym (octets_more xs [] (u ∷ x)),
    )

first_held : (xs : List (List ℕ)) (x : List ℕ) (u begin end : ℕ) (old new : List ℕ) → Holds (all_octets xs x) end old
    → (length (all_octets xs x) ≤ length old → begin ≡ length (all_octets xs [])) → begin < end → FillsTo (begin + 1) old new begin (u ∷ [])
    → Holds (all_octets xs (with_first u x)) end new
first_held xs x u begin end old new h at inside fills = (
  first_fits xs x u begin end old new h.0 at inside fills,
  λ more.
      let many : length old < end = h.1 (omega (arith, more, fills.size, length_all xs x, length_all xs (with_first u x), length_first u x)) in
      omega (arith, many, fills.size),
)

pub first_written : (xs : List (List ℕ)) (x : List ℕ) (u begin : ℕ) (a : Writer) (old new : List ℕ) → HasWritten xs x a old
    → (length (all_octets xs x) ≤ length old → begin ≡ length (all_octets xs [])) → begin < a.end → FillsTo (begin + 1) old new begin (u ∷ [])
    → HasWritten xs (with_first u x) a new
first_written xs x u begin a old new h at inside fills = record {
  count = h.count;
  held = first_held xs x u begin a.end old new h.held at inside fills;
  starts = λ room. h.starts (omega (arith, room, fills.size, length_all xs x, length_all xs (with_first u x), length_first u x));
}

-- there is none
no_first_fits : (xs : List (List ℕ)) (x : List ℕ) (u begin end : ℕ) (old : List ℕ) → Fits (all_octets xs x) end old
    → (length (all_octets xs x) ≤ length old → begin ≡ length (all_octets xs [])) → end ≤ begin → Fits (all_octets xs (with_first u x)) end old
no_first_fits xs [] u begin end old h at outside = h
no_first_fits xs (n ∷ x) u begin end old h at outside = λ room.
    let fits : length (all_octets xs (n ∷ x)) ≤ length old = omega (arith, room, length_all xs (n ∷ x), length_all xs (u ∷ x)) in
    absurd (omega (arith, at fits, (h fits).0, length_all xs (n ∷ x), outside))

no_first_held : (xs : List (List ℕ)) (x : List ℕ) (u begin end : ℕ) (old : List ℕ) → Holds (all_octets xs x) end old
    → (length (all_octets xs x) ≤ length old → begin ≡ length (all_octets xs [])) → end ≤ begin → Holds (all_octets xs (with_first u x)) end old
no_first_held xs x u begin end old h at outside =
    (no_first_fits xs x u begin end old h.0 at outside, λ more. h.1 (omega (arith, more, length_all xs x, length_all xs (with_first u x), length_first u x)))

pub none_written : (xs : List (List ℕ)) (x : List ℕ) (u begin : ℕ) (a : Writer) (old : List ℕ) → HasWritten xs x a old
    → (length (all_octets xs x) ≤ length old → begin ≡ length (all_octets xs [])) → a.end ≤ begin → HasWritten xs (with_first u x) a old
none_written xs x u begin a old h at outside = record {
  count = h.count;
  held = no_first_held xs x u begin a.end old h.held at outside;
  starts = λ room. h.starts (omega (arith, room, length_all xs x, length_all xs (with_first u x), length_first u x));
}

-- where it is: after the last start, or at the beginning
pub first_after : (xs : List (List ℕ)) (ns ms : List ℕ) (n begin : ℕ) → HasStarts xs ns → ns ≡ ms ++ n ∷ [] → begin ≡ min (n + 1) (2 ^ 64 - 1) → length (all_octets xs []) < 2 ^ 64
    → begin ≡ length (all_octets xs [])
first_after [] ns ms n begin h e b room = absurd (omega (arith, ap length h, ap length e, length-append ms (n ∷ [])))
first_after (z ∷ zs) ns ms n begin (m, ks, f, at, h) e b room =
    let last = last_one ms ks n m (sym e ∙ f) in
    omega (arith, b, last.1, at, ap length (octets_more zs z (0 ∷ [])), length-append (all_octets zs z) (0 ∷ []), room)

pub first_alone : (xs : List (List ℕ)) (ns : List ℕ) → HasStarts xs ns → length ns ≡ 0 → 0 ≡ length (all_octets xs [])
first_alone [] ns h e = refl
first_alone (z ∷ zs) ns (m, ks, f, at, h) e = absurd (omega (arith, ap length f, e, length-append ks (m ∷ [])))

-- so it begins there, if all is in the buffer
pub first_place : (xs : List (List ℕ)) (x : List ℕ) (a : Writer) (old : List ℕ) (begin : ℕ) → HasWritten xs x a old → length old < 2 ^ 63
    → (HasStarts xs a.starts.items → length (all_octets xs []) < 2 ^ 64 → begin ≡ length (all_octets xs []))
    → length (all_octets xs x) ≤ length old → begin ≡ length (all_octets xs [])
first_place xs x a old begin h small f room = f (h.starts room) (omega (arith, room, small, length_all xs x))

-- nothing is written yet
pub none_yet : (a : Writer) (out : List ℕ) → a.end ≡ 0 → a.starts.items ≡ [] → HasWritten [] [] a out
none_yet a out e s = record { count = ap length s; held = (λ room. (e, ap (λ n. take n out) e), λ more. absurd (omega (arith, more))); starts = λ room. s }

-- One more content ends. What ends after it ends from the start on.
pub ended_one : (k : ℕ) (xs zs : List (List ℕ)) (x z : List ℕ) (s a b : Writer) (o p : List ℕ) (n : ℕ) → HasWritten zs z s o
    → ((ys : List (List ℕ)) (y : List ℕ) → Completes k zs z ys y → Completes k xs x ys y)
    → k < length s.starts.items → s.starts.items ≡ a.starts.items ++ n ∷ [] → a.end ≡ s.end → PutsLength n a o b p
    → (us : List (List ℕ)) × (u : List ℕ) × HasWritten us u b p × ((ys : List (List ℕ)) (y : List ℕ) → Completes k us u ys y → Completes k xs x ys y)
ended_one k xs [] x z s a b o p n h back inside popped same puts = absurd (omega (arith, h.count, inside))
ended_one k xs (v ∷ zs) x z s a b o p n h back inside popped same puts =
    (zs, v ++ sized z, written_ended v z zs s a b o p n h popped same puts, λ ys y d. back ys y (close v zs refl (omega (arith, h.count, inside)) d))

-- the innermost content is in the buffer from where it begins up to the end
pub innermost_at : (xs : List (List ℕ)) (x : List ℕ) (a : Writer) (o : List ℕ) (begin : ℕ) → HasWritten xs x a o → length o < 2 ^ 63
    → (HasStarts xs a.starts.items → length (all_octets xs []) < 2 ^ 64 → begin ≡ length (all_octets xs [])) → a.end ≤ length o
    → take (a.end - begin) (drop begin o) ≡ x
innermost_at xs x a o begin h small f inside =
    ⊎_elim
    (λ many. absurd (omega (arith, h.held.1 many, inside)))
    (λ fits.
    let w = all_octets xs [] in
    let b : begin ≡ length w = first_place xs x a o begin h small f fits in
    let e : a.end ≡ begin + length x = omega (arith, b, (h.held.0 fits).0, length_all xs x) in
    let n : a.end - begin ≡ length x = omega (arith, e) in
    let all : take (begin + length x) o ≡ w ++ x = subst (λ k. take k o ≡ all_octets xs x) e (h.held.0 fits).1 ∙ octets_more xs [] x in
    ap (λ k. take k (drop begin o)) n ∙ sym (drop-take begin (length x) o) ∙ ap (drop begin) all ∙ drop_at w x begin (sym b))
    (cases_lt (length o) (length (all_octets xs x)))

-- where it isn't there, the buffer has no room
pub innermost_none : (xs : List (List ℕ)) (x : List ℕ) (a : Writer) (o : List ℕ) (begin : ℕ) → HasWritten xs x a o → length o < 2 ^ 63
    → (HasStarts xs a.starts.items → length (all_octets xs []) < 2 ^ 64 → begin ≡ length (all_octets xs [])) → (begin ≤ a.end → length o < a.end)
    → length o < length (all_octets xs x)
innermost_none xs x a o begin h small f outside =
    ⊎_elim
    (λ many. many)
    (λ fits.
    let b : begin ≡ length (all_octets xs []) = first_place xs x a o begin h small f fits in
    let e : a.end ≡ length (all_octets xs x) = (h.held.0 fits).0 in
    let never : length o < a.end = outside (omega (arith, b, e, length_all xs x)) in
    absurd (omega (arith, never, e, fits)))
    (cases_lt (length o) (length (all_octets xs x)))
