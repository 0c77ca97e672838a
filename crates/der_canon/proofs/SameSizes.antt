-- What is written has as many octets as are counted.
use Rattle.std.proofs.Common.{◌≡◌, ℕ, ◌+◌, ◌-◌, Bool, true, false, not, List, [], ◌∷◌, ◌++◌, length, length-append, refl, sym, ap, subst, ◌∙◌, arith, append_assoc, ⊎_elim}
use Rattle.std.specs.Prelude.{◌==◌, ◌&&◌, if◌then◌else◌}
use Rattle.std.proofs.lemmas.Bool.{cases_lt}
use Rattle.std.proofs.lemmas.List.{append-nil}
use Rattle.der_base.specs.declared.header.Class.{Class}
use Rattle.der_base.specs.Encoding.{element}
use Rattle.der_base.specs.Octets.{identifier, shortest_length}
use Rattle.der_base.proofs.Octets.Numbers.{identifier_short_length, identifier_long_length}
use Rattle.der_elements.specs.Visits.{Visited}
use Rattle.der_writer.specs.Octets.{cleared}
use Rattle.der_canon.specs.Contents.{AreWritten, Completes, Contents, Writes, WritesAll, no_contents, sized, with_part_of}
use Rattle.der_canon.specs.Contents.{stay, close, part, primitive, constructed}
use Rattle.der_canon.specs.Same.{content_of, is_in_parts, is_part, with_bits, with_first}
use Rattle.der_canon.specs.Sizes.{Ends, HasSize, HasSizes, part_size, with_length}
use Rattle.der_canon.specs.Sizes.{stay as stay_size, close as close_size, none as none_size, part as part_more, primitive as primitive_size, constructed as constructed_size}
use Rattle.der_canon.specs.Values.{bits_in_der, boolean_in_der, content_in_der, is_universal, value_in_der}

-- how many octets the contents around have, the outermost first
abbrev lengths : List (List ℕ) → List ℕ
lengths [] = []
lengths (x ∷ xs) = lengths xs ++ length x ∷ []

lengths_count : (xs : List (List ℕ)) → length (lengths xs) ≡ length xs
lengths_count [] = refl
lengths_count (x ∷ xs) = omega (arith, length-append (lengths xs) (length x ∷ []), lengths_count xs)

length_sized : (z x : List ℕ) → length (z ++ sized x) ≡ length z + with_length (length x)
length_sized z x = omega (arith, length-append z (sized x), length-append (shortest_length (length x)) x)

sizes_end : (k : ℕ) (xs ys : List (List ℕ)) (x y : List ℕ) → Completes k xs x ys y → Ends k (lengths xs) (length x) (lengths ys) (length y)
sizes_end k xs ys x y (stay few a b) = stay_size (omega (arith, lengths_count xs, few)) (ap lengths a) (ap length b)
sizes_end k xs ys x y (close z zs e some more) =
    close_size (lengths zs) (length z) (ap lengths e) (omega (arith, lengths_count zs, some))
    (subst (λ n. Ends k (lengths zs) n (lengths ys) (length y)) (length_sized z x) (sizes_end k zs ys (z ++ sized x) y more))

length_cleared : (u : ℕ) (w : List ℕ) → length (cleared u w) ≡ length w
length_cleared u [] = refl
length_cleared u (b ∷ []) = refl
length_cleared u (b ∷ c ∷ w) = omega (arith, length_cleared u (c ∷ w))

length_boolean : (w : List ℕ) → length (boolean_in_der w) ≡ length w
length_boolean [] = refl
length_boolean (b ∷ []) = refl
length_boolean (b ∷ c ∷ w) = refl

length_bits : (w : List ℕ) → length (bits_in_der w) ≡ length w
length_bits [] = refl
length_bits (u ∷ w) = omega (arith, length_cleared u w)

length_content : (p q : Bool) (w : List ℕ) → length (if p then boolean_in_der w else (if q then bits_in_der w else w)) ≡ length w
length_content true q w = length_boolean w
length_content false true w = length_bits w
length_content false false w = refl

length_value_if : (p : Bool) (t : ℕ) (w : List ℕ) → length (if p then content_in_der t w else w) ≡ length w
length_value_if true t w = length_content (t == 1) (t == 3) w
length_value_if false t w = refl

pub length_value : (c : Class) (t : ℕ) (w : List ℕ) → length (value_in_der c t w) ≡ length w
length_value c t w = length_value_if (is_universal c) t w

length_first : (u : ℕ) (x : List ℕ) → length (with_first u x) ≡ length x
length_first u [] = refl
length_first u (n ∷ x) = refl

length_with_bits : (w x : List ℕ) → length (with_bits w x) ≡ length x + (length w - 1)
length_with_bits [] x = omega arith
length_with_bits (u ∷ w) x = omega (arith, length-append (with_first u x) (cleared u w), length_first u x, length_cleared u w)

length_part : (p : Bool) (w x : List ℕ) → length (if p then with_bits w x else x ++ w) ≡ length x + (length w - (if p then 1 else 0))
length_part true w x = length_with_bits w x
length_part false w x = omega (arith, length-append x w)

pub length_part_of : (p : Bool) (t : ℕ) (w x : List ℕ) → length (with_part_of p t w x) ≡ length x + part_size p t w
length_part_of true t w x = omega arith
length_part_of false t w x = length_part (t == 3) w x

length_start : (p q : Bool) → length {A = ℕ} (if p then (if q then 0 ∷ [] else []) else []) ≡ (if p && q then 1 else 0)
length_start true true = refl
length_start true false = refl
length_start false q = refl

-- the constructed bit is in the first octet
length_identifier : (c : Class) (p q : Bool) (t : ℕ) → length (identifier c p t) ≡ length (identifier c q t)
length_identifier c p q t =
    ⊎_elim
    (λ h. identifier_short_length c p t h ∙ sym (identifier_short_length c q t h))
    (λ h. identifier_long_length c p t h ∙ sym (identifier_long_length c q t h))
    (cases_lt t 31)

length_element : (c : Class) (p : Bool) (t : ℕ) (x : List ℕ) → length (element c p t x) ≡ length (identifier c p t) + with_length (length x)
length_element c p t x = omega (arith, length-append (identifier c p t ++ shortest_length (length x)) x, length-append (identifier c p t) (shortest_length (length x)))

-- the contents so far are counted
abbrev Counted : List ℕ → List Visited → Contents → Type 0
Counted i vs s = HasSizes i vs s.string (lengths s.around) (length s.here)

counted_more : (P : Contents → Type 0) (i : List ℕ) (vs : List Visited) (s : Contents) (v : Visited) (t : Contents) → Counted i vs s → Writes P i s v t → Counted i (vs ++ v ∷ []) t
counted_more P i vs s v t h (part inner string around here number) =
    part_more vs v (length s.here) (subst (λ n. HasSizes i vs n (lengths t.around) (length s.here)) (sym string) (subst (λ z. HasSizes i vs s.string (lengths z) (length s.here)) (sym around) h))
    (subst (λ n. is_part n v ≡ true) (sym string) inner) refl
    (ap length here ∙ length_part_of v.constructed v.number (content_of i v) s.here)
counted_more P i vs s v t h (primitive g free string ends plain here form kept) =
    let w = content_of i v in
    let x = value_in_der v.class v.number w in
    let bit : length (identifier v.class false v.number) ≡ length (identifier v.class v.constructed v.number) = ap (λ p. length (identifier v.class p v.number)) (sym plain) in
    let size : with_length (length x) ≡ with_length (length w) = ap with_length (length_value v.class v.number w) in
    primitive_size vs v s.string (lengths s.around) (length s.here) (length g) h free (sizes_end v.depth s.around t.around s.here g ends) plain
    (ap length here ∙ length-append g (element v.class false v.number x) ∙ omega (arith, length_element v.class false v.number x, bit, size)) refl string
counted_more P i vs s v t h (constructed gs g free string ends is around here number kept) =
    let p = not (is_in_parts v) in
    let size : length (g ++ identifier v.class p v.number) ≡ length g + length (identifier v.class v.constructed v.number) =
    length-append g (identifier v.class p v.number) ∙ ap (λ n. length g + n) (length_identifier v.class p v.constructed v.number) in
    constructed_size vs v s.string (lengths s.around) (lengths gs) (length s.here) (length g) h free (sizes_end v.depth s.around gs s.here g ends) is
    (ap lengths around ∙ ap (λ n. lengths gs ++ n ∷ []) size) (ap length here ∙ length_start (is_in_parts v) (v.number == 3)) refl string

counted_all : (P : Contents → Type 0) (i : List ℕ) (vs us : List Visited) (s t : Contents) → Counted i vs s → WritesAll P i s us t → Counted i (vs ++ us) t
counted_all P i vs [] s t h same = subst (λ (c : Contents). Counted i (vs ++ []) c) same (subst (λ l. Counted i l s) (sym (append-nil vs)) h)
counted_all P i vs (v ∷ us) s t h (m, one, more) =
    subst (λ l. Counted i l t) (append_assoc vs (v ∷ []) us) (counted_all P i (vs ++ v ∷ []) us m t (counted_more P i vs s v m h one) more)

pub same_size : (P : Contents → Type 0) (i o : List ℕ) → AreWritten P i o → HasSize i (length o)
same_size P i o (vs, t, vis, all, done, kept) =
    (vs, t.string, lengths t.around, [], length t.here, vis, counted_all P i [] vs no_contents t (none_size refl refl refl refl) all, sizes_end 0 t.around [] t.here o done)
