-- The string whose parts are written.
use Rattle.std.proofs.Common.{◌≡◌, ℕ, ◌<◌, true, false, Option, Some, None, List, [], ◌∷◌, ◌++◌, length, IfErr, OnOk, Result, Ok, Err, refl, sym, ap, subst, ◌∙◌, append_assoc}
use Rattle.std.specs.Prelude.{◌&&◌, if◌then◌else◌}
use Rattle.std.proofs.lemmas.Bool.{ltb-true, ltb-false}
use Rattle.std.proofs.lemmas.List.Elements.{All-nil, All-push}
use Rattle.der_base.specs.declared.rules.Rules.TheVariants.{Ber, Der}
use Rattle.der_contents.specs.ContentRules.{IsContent, IsFirstBroken, content_rules}
use Rattle.der_elements.specs.Visits.{Visited}
use Rattle.der_elements.specs.declared.walk.Walk.{Walk}
use Rattle.der_elements.specs.Walked.{HasVisited}
use Rattle.der_canon.specs.declared.strings.Broken.{Broken}
use Rattle.der_canon.specs.declared.strings.InParts.{InParts}
use Rattle.der_canon.specs.declared.writer.Writer.{Writer}
use Rattle.der_canon.specs.Contents.{Contents, KeepsIn, Writes, start_of, with_part_of}
use Rattle.der_canon.specs.Contents.{part as writes_part, primitive as writes_primitive, constructed as writes_constructed}
use Rattle.der_canon.specs.Same.{content_of, is_in_parts, is_part, is_string_of, no_extras, parts_of, string_start}
use Rattle.der_canon.specs.Strings.{EndsAfter, HasString, IsBroken, IsBrokenIn, IsKeptIn, IsStringIn, with_parts, none, some, next}
use Rattle.der_canon.specs.Writing.{HasWritten}

differ : {A : Type 0} → true ≡ false → A
differ e = absurd (cc)

parts_more : (i : List ℕ) (ps : List Visited) (u : Visited) (x : List ℕ)
    → with_parts i (ps ++ u ∷ []) x ≡ with_part_of u.constructed u.number (content_of i u) (with_parts i ps x)
parts_more i [] u x = refl
parts_more i (p ∷ ps) u x = parts_more i ps u (with_part_of p.constructed p.number (content_of i p) x)

-- one more part of it
pub string_part : (P : Contents → Type 0) (i : List ℕ) (vs : List Visited) (c : Contents) (u : Visited) (t : Contents) (s : Option InParts) → HasString i vs c s → is_part c.string u ≡ true
    → Writes P i c u t → HasString i (vs ++ u ∷ []) t s
string_part P i vs c u t s h inner (writes_primitive g free str comp con here form kept) = differ (sym inner ∙ free)
string_part P i vs c u t s h inner (writes_constructed gs g free str comp con around here number kept) = differ (sym inner ∙ free)
string_part P i vs c u t s (none e f) inner (writes_part k str around here number) = differ (sym (subst (λ z. is_part z u ≡ true) e inner))
string_part P i vs c u t s (some before parts v p is at number kind e inside string here known) inner (writes_part k str around more same) =
    let deeper = ltb-true v.depth u.depth (subst (λ z. is_part z u ≡ true) string inner) in
    some before (parts ++ u ∷ []) v p is at number kind (ap (λ z. z ++ u ∷ []) e ∙ append_assoc before (v ∷ parts) (u ∷ []))
    (All-push (λ z. v.depth < z.depth) parts u inside deeper) (str ∙ string)
    (more ∙ ap (λ z. with_part_of u.constructed u.number (content_of i u) z) here ∙ sym (parts_more i parts u (string_start v.number))) (same ∙ known)

-- another element, which may begin one
string_begun : (i : List ℕ) (vs : List Visited) (u : Visited) (t : Contents) (s : Option InParts) → t.string ≡ parts_of u → (is_in_parts u ≡ true → (t.here ≡ start_of u) × (t.number ≡ u.number))
    → IsStringIn u s → HasString i (vs ++ u ∷ []) t s
string_begun i vs u t None str here is = none (str ∙ ap (λ z. if z then Some u.depth else None) is) refl
string_begun i vs u t (Some p) str here (kind, at, number) =
    some vs [] u p refl at number kind refl (All-nil (λ z. u.depth < z.depth)) (str ∙ ap (λ z. if z then Some u.depth else None) kind)
    ((here kind).0 ∙ ap (λ z. if z then string_start u.number else []) kind) (here kind).1

no_string : (v : Visited) → v.constructed ≡ false → is_in_parts v ≡ true → ⊥
no_string v con h = differ (sym (subst (λ z. z ≡ true) (ap (λ z. z && is_string_of v.class v.number) con) h))

pub string_element : (P : Contents → Type 0) (i : List ℕ) (vs : List Visited) (c : Contents) (u : Visited) (t : Contents) (s : Option InParts) → is_part c.string u ≡ false
    → Writes P i c u t → IsStringIn u s → HasString i (vs ++ u ∷ []) t s
string_element P i vs c u t s free (writes_part k str around here number) is = differ (sym k ∙ free)
string_element P i vs c u t s free (writes_primitive g k str comp con here form kept) is = string_begun i vs u t s str (λ q. absurd (no_string u con q)) is
string_element P i vs c u t s free (writes_constructed gs g k str comp con around here number kept) is = string_begun i vs u t s str (λ q. (here, number)) is

-- it is broken, where it ends
pub broken_string : (i : List ℕ) (vs : List Visited) (c : Contents) (s : Option InParts) (a : Writer) (out : List ℕ) (b : Broken) → HasString i vs c s
    → HasWritten c.around c.here a out → IsBrokenIn s a out b → ((k : ℕ) → c.string ≡ Some k → EndsAfter i vs k) → IsBroken i b.offset b.error
broken_string i vs c s a out b (none e f) w (p, is, at, broken) ends = absurd (let k : None ≡ Some p = sym f ∙ is in cc)
broken_string i vs c s a out b (some before parts v q known place number kind e inside string here counted) w (p, is, at, broken) ends =
    let same : q ≡ p = (let k : Some q ≡ Some p = sym known ∙ is in cc) in
    let n : p.number ≡ v.number = ap (λ (z : InParts). z.number) (sym same) ∙ number in
    record {
      before = before;
      string = v;
      parts = parts;
      in_parts = kind;
      inside = inside;
      all = subst (λ z. EndsAfter i z v.depth) e (ends v.depth string);
      broken = subst (λ z. IsFirstBroken (content_rules Der v.number z) b.error) here (subst (λ z. IsFirstBroken (content_rules Der z c.here) b.error) n (broken c.around c.here w));
      place = at ∙ ap (λ (z : InParts). z.offset) (sym same) ∙ place;
    }

-- the next element isn't a part of it
pub ends_at : (i : List ℕ) (vs : List Visited) (c : Contents) (w : Walk) (u : Visited) → HasVisited no_extras Ber i w (vs ++ u ∷ []) → is_part c.string u ≡ false
    → (k : ℕ) → c.string ≡ Some k → EndsAfter i vs k
ends_at i vs c w u h free k e = next w u h (ltb-false k u.depth (subst (λ z. is_part z u ≡ false) e free))

-- its content was checked
pub broken_in : (s : InParts) (o : Option InParts) (a : Writer) (out w : List ℕ) (r : Result (Unit {0}) Broken) → o ≡ Some s
    → ((xs : List (List ℕ)) (x : List ℕ) → HasWritten xs x a out → w ≡ x)
    → IfErr r (λ b. (b.offset ≡ s.offset) × IsFirstBroken (content_rules Der s.number w) b.error) → IfErr r (IsBrokenIn o a out)
broken_in s o a out w (Ok u) is same h = h
broken_in s o a out w (Err b) is same h = (s, is, h.0, λ xs x k. subst (λ z. IsFirstBroken (content_rules Der s.number z) b.error) (same xs x k) h.1)

pub kept_in : (s : InParts) (o : Option InParts) (a : Writer) (out w : List ℕ) (r : Result (Unit {0}) Broken) → o ≡ Some s
    → ((xs : List (List ℕ)) (x : List ℕ) → HasWritten xs x a out → w ≡ x) → OnOk r (IsContent Der s.number w) → OnOk r (IsKeptIn o a out)
kept_in s o a out w (Ok u) is same h = λ p e xs x k fits.
    let q : s ≡ p = (let j : Some s ≡ Some p = sym is ∙ e in cc) in
    subst (λ (z : InParts). IsContent Der z.number x) q (subst (λ z. IsContent Der s.number z) (same xs x k) h)
kept_in s o a out w (Err b) is same h = h

-- it keeps the rules, where it ends
pub kept_string : (i : List ℕ) (vs : List Visited) (c : Contents) (s : Option InParts) (a : Writer) (out : List ℕ) → HasString i vs c s → HasWritten c.around c.here a out
    → IsKeptIn s a out → KeepsIn (length out) c
kept_string i vs c s a out (none e f) w h = λ room k j. absurd (let q : None ≡ Some k = sym e ∙ j in cc)
kept_string i vs c s a out (some before parts v p known place number kind e inside string here same) w h = λ room k j.
    subst (λ z. IsContent Der z c.here) (number ∙ sym same) (h p known c.around c.here w room)
