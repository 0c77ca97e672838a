-- Fields that are put one after another, and inside one another.
use Rattle.std.proofs.Common.{◌≡◌, ◌≢◌, ℕ, ◌⊎◌, inl, inr, All, ◌+◌, ◌-◌, ◌^◌, ◌<◌, ◌≤◌, ◌==◌, Bool, true, false, Option, Some, None, if◌then◌else◌, List, [], ◌++◌, length, take, drop, get_or, min, refl, ap, sym, subst, ◌∙◌, arith, append_assoc, length-append, Result}
use Rattle.std.specs.Borrow.{MutBor}
use Rattle.std.specs.Prelude.{Ok, Err}
use Rattle.std.proofs.lemmas.List.{take-append-drop}
use Rattle.der_base.specs.declared.header.Class.{Class}
use Rattle.der_base.specs.declared.header.Class.TheVariants.{Universal, Application, ContextSpecific, Private}
use Rattle.der_base.specs.declared.header.Tag.{Tag}
use Rattle.der_writer.specs.declared.writer.Mark.{Mark}
use Rattle.der_writer.specs.declared.writer.WriteError.{WriteError}
use Rattle.der_writer.specs.declared.writer.WriteError.TheVariants.{NoRoom, NotClosed}
use Rattle.der_writer.specs.declared.writer.Writer.{Writer}
use Rattle.der_base.specs.Encoding.{element}
use Rattle.der_base.specs.Octets.{class_number, identifier, shortest_length}
use Rattle.std.specs.List.{concat, flat_map}
use Rattle.std.proofs.lemmas.Grind.{common_steps}
use Rattle.der_writer.proofs.Counts.{further}
use Rattle.der_writer.specs.Fields.{primitive, constructed, BitString}
use Rattle.der_writer.specs.SetsOf.{IsElement, IsInOrder, ClosesSetOf}
use Rattle.der_writer.specs.Written.{HasWritten, IsClosed, IsPlain, IsInnermost, StartsAt, KeepsBuffer, Puts, Opens, OpensBits, EndsContent, Closes, IsTagged, Returns, Finishes, Wrote, PutsOptional, PutsUnless, if_some, class_from, class_put, number_put, leaf, reserved}

pub keeps_both : (a b c : Writer) → KeepsBuffer a b → KeepsBuffer b c → KeepsBuffer a c
keeps_both a b c h k = record {
  same = k.same ∙ h.same;
  size = k.size ∙ h.size;
  behind = k.behind ∙ further b.count c.count b.out.now a.out.now k.grows h.behind;
  grows = omega (arith, h.grows, k.grows);
}

-- identifier octets, and the room for a length
pub opens_put : (k : Class) (p : Bool) (t n start : ℕ) (a b : Writer) (o : List ℕ) → Puts o a b → o ≡ identifier k p t ++ reserved
    → n ≡ length (identifier k p t) → 1 ≤ n → start ≡ min (a.count + n) (2 ^ 64 - 1)
    → Opens k p t (record { start = start; outer = b.innermost }) a (record b { innermost = start })
opens_put k p t n start a b o put octets sized least at = record {
  keeps = put.keeps;
  plain = put.plain;
  some = omega (arith, least, at);
  outer = put.level;
  innermost = refl;
  written = λ w held.
      let P : List ℕ → Type 0 = λ v. HasWritten v b in (
        omega (arith, held.counted, sized, at, length-append w (identifier k p t)),
        subst P (ap (λ v. w ++ v) octets ∙ sym (append_assoc w (identifier k p t) reserved)) (put.written w held),
      );
}

-- a mark that isn't the innermost one
pub closes_none : (m : Mark) (a : Writer) → ¬ IsInnermost m a → Closes m a (record a { implicit = record { class = 0; number = a.implicit.number } })
closes_none m a other = record {
  keeps = record { same = refl; size = refl; behind = refl; grows = omega arith };
  plain = refl;
  closed = λ e. absurd (other e);
  stays = λ o. refl;
  written = λ before content e. absurd (other e);
}

-- the innermost one
pub closes_ended : (m : Mark) (a b : Writer) → IsInnermost m a → EndsContent m.start (record a { implicit = record { class = 0; number = a.implicit.number }; innermost = m.outer }) b → Closes m a b
closes_ended m a b inner h = record {
  keeps = h.keeps;
  plain = ap (λ i. i.class) h.tag;
  closed = λ e. h.level;
  stays = λ other. absurd (other inner);
  written = λ before content e after held. h.written before content after held;
}

-- one after another
pub puts_both : {a b c : Writer} {e f : List ℕ} → Puts f b c → Puts e a b → Puts (e ++ f) a c
puts_both {a = a} {b = b} {c = c} {e = e} {f = f} k h = record {
  keeps = keeps_both a b c h.keeps k.keeps;
  plain = k.plain;
  level = k.level ∙ h.level;
  written = λ w held. let P : List ℕ → Type 0 = λ v. HasWritten v c in subst P (append_assoc w e f) (k.written (w ++ e) (h.written w held));
}

wrapped_in : {a b c d : Writer} (k : Class) (p : Bool) (t : ℕ) {m : Mark} (w : List ℕ) → Closes m c d → Puts w b c → Opens k p t m a b → Puts (element k p t w) a d
wrapped_in {a = a} {b = b} {c = c} {d = d} k p t {m = m} w l h o =
    let inner : IsInnermost m c = h.level ∙ o.innermost in
    record {
      keeps = keeps_both a c d (keeps_both a b c o.keeps h.keeps) l.keeps;
      plain = l.plain;
      level = l.closed inner ∙ o.outer;
      written = λ before held.
          let opened = o.written before held in
          let front = identifier k p t in
          let size = shortest_length (length w) in
          let P : List ℕ → Type 0 = λ v. HasWritten v d in
          subst P (append_assoc before front (size ++ w) ∙ ap (λ v. before ++ v) (sym (append_assoc front size w)))
          (l.written (before ++ front) w inner opened.0 (h.written (before ++ front ++ reserved) opened.1));
    }

-- the same octets
pub puts_same : {a b : Writer} {x y : List ℕ} → x ≡ y → Puts x a b → Puts y a b
puts_same {a = a} {b = b} e h = let P : List ℕ → Type 0 = λ l. Puts l a b in subst P e h

next_item : {X A : Type 0} (f : X → List A) (xs : List X) (i : ℕ) (d : X) → i < length xs
    → flat_map f (take i xs) ++ f (get_or xs i d) ≡ flat_map f (take (i + 1) xs)
next_item f xs i d within = grind (arith, common_steps)

-- the items of a list before an index are put, and so is the one at it
pub item_put : {X : Type 0} {a b c : Writer} (f : X → List ℕ) (xs : List X) (i : ℕ) (d : X) → i < length xs
    → Puts (flat_map f (take i xs)) a b → Puts (f (get_or xs i d)) b c → Puts (flat_map f (take (i + 1) xs)) a c
item_put f xs i d within h k = puts_same (next_item f xs i d within) (puts_both k h)

-- the fields of an element between its begin and its end
pub puts_inside : {a b c d : Writer} {k : Class} {t : ℕ} {m : Mark} {w : List ℕ} → Closes m c d → Puts w b c → Opens k true t m a b → Puts (constructed k t w) a d
unfolding constructed
puts_inside {a = a} {b = b} {c = c} {d = d} {k = k} {t = t} {w = w} l h o = wrapped_in k true t w l h o

-- the same of a primitive one, whose octets are elements
pub puts_within : {a b c d : Writer} {k : Class} {t : ℕ} {m : Mark} {w : List ℕ} → Closes m c d → Puts w b c → Opens k false t m a b → Puts (primitive k t w) a d
unfolding primitive
puts_within {a = a} {b = b} {c = c} {d = d} {k = k} {t = t} {w = w} l h o = wrapped_in k false t w l h o

-- the same of a BIT STRING
pub puts_within_bits : {a b c d : Writer} {m : Mark} {w : List ℕ} → Closes m c d → Puts w b c → OpensBits m a b → Puts (BitString 0 w) a d
puts_within_bits l h o = puts_within l (puts_both h o.2) o.1

-- the same of a universal type, or of the implicit tag that it has
pub leaf_within : {a b c d : Writer} {m : Mark} (t : ℕ) (k : Class × Tag) (w : List ℕ) → k.0 ≡ class_put a.implicit → k.1.0 ≡ number_put a.implicit t
    → Opens k.0 false k.1.0 m a b → Puts w b c → Closes m c d → Puts (leaf a.implicit t w) a d
unfolding leaf
leaf_within {a = a} {d = d} t k w class number o h l =
    let P : Class → Type 0 = λ x. Puts (element x false (number_put a.implicit t) w) a d in
    let Q : ℕ → Type 0 = λ n. Puts (element k.0 false n w) a d in
    subst P class (subst Q number (wrapped_in k.0 false k.1.0 w l h o))

-- a field without an implicit tag
pub puts_plain : {a b : Writer} (t : ℕ) (x : List ℕ) → Puts (leaf a.implicit t x) a b → IsPlain a → Puts (primitive Universal t x) a b
unfolding leaf primitive
puts_plain {a = a} {b = b} t x h e =
    let P : ℕ → Type 0 = λ n. Puts (element (class_from n) false (if n == 0 then t else a.implicit.number) x) a b in subst P e h

-- the element of an implicit tag
tagged_leaf : (c : Class) (n t : ℕ) (x : List ℕ) → leaf (record { class = class_number c + 1; number = n }) t x ≡ primitive c n x
unfolding leaf primitive
tagged_leaf Universal n t x = refl
tagged_leaf Application n t x = refl
tagged_leaf ContextSpecific n t x = refl
tagged_leaf Private n t x = refl

-- a field with one
pub puts_tagged : {a m b : Writer} {c : Class} {n : ℕ} (t : ℕ) (x : List ℕ) → Puts (leaf m.implicit t x) m b → IsTagged c n a m → Puts (primitive c n x) a b
unfolding leaf primitive
puts_tagged {a = a} {m = m} {b = b} {c = c} {n = n} t x h e =
    let P : Writer → Type 0 = λ s. Puts (leaf s.implicit t x) s b in
    let k = puts_same (tagged_leaf c n t x) (subst P e.tagged h) in
    record { keeps = k.keeps; plain = k.plain; level = k.level; written = k.written }

-- The steps of a proof that follows the calls: the first field behind a mark, a field after others, an element of
-- fields, and one after others. Each knows that no implicit tag is left over.
pub first_put : {a b c : Writer} {k : Class} {p : Bool} {n : ℕ} {m : Mark} (t : ℕ) (x : List ℕ) → Opens k p n m a b → Puts (leaf b.implicit t x) b c → Puts (primitive Universal t x) b c
first_put t x o h = puts_plain t x h o.plain

pub then_put : {a b c : Writer} {e : List ℕ} (t : ℕ) (x : List ℕ) → Puts e a b → Puts (leaf b.implicit t x) b c → Puts (e ++ primitive Universal t x) a c
then_put t x h k = puts_both (puts_plain t x k h.plain) h

pub put_element : {a b c d : Writer} {k : Class} {t : ℕ} {m : Mark} {w : List ℕ} → Opens k true t m a b → Puts w b c → Closes m c d → Puts (constructed k t w) a d
put_element o h l = puts_inside l h o

pub then_element : {a b c d z : Writer} {k : Class} {t : ℕ} {m : Mark} {e w : List ℕ} → Puts e a b → Opens k true t m b c → Puts w c d → Closes m d z → Puts (e ++ constructed k t w) a z
then_element h o g l = puts_both (puts_inside l g o) h

-- what is returned, of octets that are written
finished : (e old new : List ℕ) (b : Writer) (r : Result ℕ WriteError) → HasWritten e b → drop b.count b.out.now ≡ drop b.count old → length b.out.now ≡ length old
    → IsClosed b → length b.out.now < 2 ^ 63 → new ≡ b.out.now → Returns b r → Wrote e old new r
finished e old new b (Ok n) held behind size closed small kept ret =
    let count : n ≡ length e = omega (arith, held.counted, ret.1, ret.2) in
    let front : take n b.out.now ≡ e = ap (λ j. take j b.out.now) count ∙ held.held (omega (arith, count, ret.1, ret.2)) in
    let P : ℕ → Type 0 = λ j. drop j b.out.now ≡ drop j old in (
      count,
      kept ∙ sym (take-append-drop n b.out.now) ∙ ap (λ l. l ++ drop n b.out.now) front ∙ ap (λ l. e ++ l) (subst P (sym ret.1) behind),
    )
finished e old new b (Err (NoRoom n)) held behind size closed small kept ret =
    (omega (arith, held.counted, ret.1, ret.2, size), ret.1 ∙ held.counted)
finished e old new b (Err NotClosed) held behind size closed small kept ret = absurd (ret closed)

-- all that a new writer put
pub wrote : {a b : Writer} {out : MutBor (List ℕ)} {e new : List ℕ} {r : Result ℕ WriteError} → Finishes b new r → StartsAt out a → Puts e a b → Wrote e out.now new r
wrote {a = a} {b = b} {out = out} {e = e} {new = new} {r = r} f s h =
    let none : HasWritten [] a = record { counted = omega (arith, s.count); held = λ room. refl } in
    let same : drop b.count a.out.now ≡ drop b.count out.now = ap (drop b.count) s.octets in
    finished e out.now new b r (h.written [] none) (h.keeps.behind ∙ same) (h.keeps.size ∙ ap length s.octets) (h.level ∙ s.innermost)
    f.small f.kept f.returned

-- the same of a buffer that is the writer's
pub wrote_back : (e old : List ℕ) (r : Result ℕ WriteError) (x y : List ℕ) → x ≡ y → Wrote e old y r → Wrote e old x r
wrote_back e old r x y same w = let P : List ℕ → Type 0 = λ l. Wrote e old l r in subst P (sym same) w

-- the same of a writer that was lent and came back
pub puts_back : (e : List ℕ) (a x y : Writer) → x ≡ y → Puts e a y → Puts e a x
puts_back e a x y same h = let P : Writer → Type 0 = λ s. Puts e a s in subst P (sym same) h

-- A field that may be absent, and one with a default: with the octets of the value, or none.
pub optional_put : {V : Type 0} {a b : Writer} (t : ℕ) (x : V → List ℕ) (v : Option V) → PutsOptional t x v a b → IsPlain a
    → Puts (if_some (λ y. primitive Universal t (x y)) v) a b
optional_put t x None h e = h
optional_put t x (Some v) h e = puts_plain t (x v) h e

pub unless_put : {V : Type 0} {a b : Writer} {d v : V} (t : ℕ) (x : V → List ℕ) → (v ≡ d) ⊎ (v ≢ d) → PutsUnless d t x v a b → IsPlain a
    → (e : List ℕ) × Puts e a b × (((v ≡ d) × (e ≡ [])) ⊎ ((v ≢ d) × (e ≡ primitive Universal t (x v))))
unless_put t x (inl same) h e = ([], h.same same, inl (same, refl))
unless_put {v = v} t x (inr other) h e = (primitive Universal t (x v), puts_plain t (x v) (h.other other) e, inr (other, refl))

-- a SET OF the elements between its begin and its end
pub set_of_put : {a b c d : Writer} {k : Class} {t : ℕ} {m : Mark} (ss : List (List ℕ)) → All IsElement ss → Opens k true t m a b → Puts (concat ss) b c → ClosesSetOf m c d
    → (ts : List (List ℕ)) × IsInOrder ss ts × Puts (constructed k t (concat ts)) a d
unfolding constructed
set_of_put {a = a} {b = b} {c = c} {d = d} {k = k} {t = t} {m = m} ss are o h l =
    let inner : IsInnermost m c = h.level ∙ o.innermost in
    let sorted = l.written ss are in
    let ts = sorted.0 in (
      ts,
      sorted.1,
      record {
        keeps = keeps_both a c d (keeps_both a b c o.keeps h.keeps) l.keeps;
        plain = l.plain;
        level = l.closed inner ∙ o.outer;
        written = λ before held.
            let opened = o.written before held in
            let front = identifier k true t in
            let size = shortest_length (length (concat ts)) in
            let P : List ℕ → Type 0 = λ v. HasWritten v d in
            subst P (append_assoc before front (size ++ concat ts) ∙ ap (λ v. before ++ v) (sym (append_assoc front size (concat ts))))
            (sorted.2 (before ++ front) inner opened.0 (h.written (before ++ front ++ reserved) opened.1));
      },
    )
