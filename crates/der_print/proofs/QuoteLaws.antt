-- Texts that are written one after another, and characters that are written as they are.
use Rattle.std.proofs.Common.{◌≡◌, ◌∙◌, ◌∷◌, ◌++◌, ◌+◌, ◌<◌, ◌≤◌, ◌&&◌, ◌==◌, [], Bool, List, false, true, ℕ, ap, append-nil, append_assoc, arith, length, refl, suc, sym, take, zero}
use Rattle.std.specs.Prelude.{IsUtf8, encode_utf8, encode_utf8_all, map, nat_le, not}
use Rattle.std.specs.List.{concat, list_all}
use Rattle.std.specs.Str.{IsAscii, chars}
use Rattle.std.proofs.Math.Seq.{take-append_seam}
use Rattle.std.proofs.lemmas.Bool.Decides.{nat_tests}
use Rattle.std.proofs.lemmas.List.{length-append, length-map, take_all}
use Rattle.std.proofs.lemmas.List.Folds.{concat-append}
use Rattle.std.proofs.lemmas.Str.{chars-IsAscii, encodes-chars, length-le-encodes}
use Rattle.der_print.specs.declared.pieces.Piece.TheVariants.{Character}
use Rattle.der_print.specs.Quotes.{character_text, is_hidden, is_plain, is_unescaped, piece_text}
use Rattle.der_print.proofs.PieceLaws.{not_true}

-- one more text was written
pub texts_more : (all sent others : List (List ℕ)) (t : List ℕ) → all ≡ sent ++ (t ∷ others) → all ≡ (sent ++ t ∷ []) ++ others
texts_more all sent others t e = e ∙ sym (append_assoc sent (t ∷ []) others)

pub concat_more : (sent : List (List ℕ)) (t : List ℕ) → concat sent ++ t ≡ concat (sent ++ t ∷ [])
concat_more sent t = sym (concat-append sent (t ∷ []) ∙ ap (λ w. concat sent ++ w) (append-nil t))

pub length_more : (sent : List (List ℕ)) (t : List ℕ) → length (sent ++ t ∷ []) ≡ length sent + 1
length_more sent t = length-append sent (t ∷ [])

-- all texts were written
pub all_fit : (all sent : List (List ℕ)) (n : ℕ) → all ≡ sent ++ [] → length sent ≤ n → true ≡ nat_le (length all) n
all_fit all sent n e short = let same = e ∙ append-nil sent in rw same (grind (arith, nat_tests))

pub all_taken : (all sent : List (List ℕ)) (n : ℕ) → all ≡ sent ++ [] → length sent ≤ n → concat sent ≡ concat (take n all)
all_taken all sent n e short = let same = e ∙ append-nil sent in rw same (ap concat (sym (take_all n sent short)))

-- n were written, and there are others
pub some_left : (all sent others : List (List ℕ)) (t : List ℕ) (n : ℕ) → all ≡ sent ++ (t ∷ others) → length sent ≡ n → false ≡ nat_le (length all) n
some_left all sent others t n e full =
    let long : n < length (sent ++ (t ∷ others)) = omega (arith, length-append sent (t ∷ others), full) in
    rw e (grind (arith, nat_tests))

pub first_taken : (all sent others : List (List ℕ)) (t : List ℕ) (n : ℕ) → all ≡ sent ++ (t ∷ others) → length sent ≡ n → concat sent ≡ concat (take n all)
first_taken all sent others t n e full = rw (e, ← full) (ap concat (sym (take-append_seam sent (t ∷ others))))

no_truth : {P : Type 0} → false ≡ true → P
no_truth e = cc

pub both_true : (a b : Bool) → (a && b) ≡ true → (a ≡ true) × (b ≡ true)
both_true true b h = (refl, h)
both_true false b h = no_truth h

-- plain ASCII is in no range of hidden characters
plain_bounds : (b : ℕ) → is_plain b ≡ true → (0x20 ≤ b) × (b ≤ 0x7e)
plain_bounds b h = grind (arith, nat_tests)

shown : (b : ℕ) → 0x20 ≤ b → b ≤ 0x7e → is_hidden b ≡ false
shown b low high = grind (arith, nat_tests)

-- different from a hidden one, as a line feed is
apart : (c d : ℕ) → is_hidden c ≡ false → is_hidden d ≡ true → (c == d) ≡ false
apart c d seen hidden = not_true (c == d) (λ e. let same : c ≡ d = grind (arith, nat_tests) in no_truth (sym seen ∙ ap is_hidden same ∙ hidden))

is_not : (b : Bool) → not b ≡ true → b ≡ false
is_not true h = no_truth h
is_not false h = refl

unescaped_character : (c : ℕ) → is_unescaped c ≡ true → character_text c ≡ encode_utf8 c
unescaped_character c h =
    let all = both_true (not (c == 0x22) && not (c == 0x5c)) (not (is_hidden c)) h in
    let marks = both_true (not (c == 0x22)) (not (c == 0x5c)) all.0 in
    let seen = is_not (is_hidden c) all.1 in
    rw (is_not (c == 0x22) marks.0, is_not (c == 0x5c) marks.1, apart c 0x0a seen refl, apart c 0x0d seen refl, apart c 0x09 seen refl, seen) refl

-- plain ASCII is written as it is
plain_octet : (b : ℕ) → is_plain b ≡ true → is_unescaped b ≡ true
plain_octet b h =
    let k = plain_bounds b h in
    let quote : (b == 0x22) ≡ false = grind (arith, nat_tests) in
    let backslash : (b == 0x5c) ≡ false = grind (arith, nat_tests) in
    rw (quote, backslash, shown b k.0 k.1) refl

plain_ascii : (w : List ℕ) → list_all is_plain w ≡ true → IsAscii w
plain_ascii [] h i = omega arith
plain_ascii (b ∷ w) h zero = let k = plain_bounds b (both_true (is_plain b) (list_all is_plain w) h).0 in omega arith
plain_ascii (b ∷ w) h (suc i) = plain_ascii w (both_true (is_plain b) (list_all is_plain w) h).1 i

plain_octets : (w : List ℕ) → list_all is_plain w ≡ true → list_all is_unescaped w ≡ true
plain_octets [] h = refl
plain_octets (b ∷ w) h =
    let k = both_true (is_plain b) (list_all is_plain w) h in
    rw (plain_octet b k.0, plain_octets w k.1) refl

-- a text of plain ASCII
pub plain_unescaped : (w : List ℕ) → list_all is_plain w ≡ true → list_all is_unescaped (chars w) ≡ true
plain_unescaped w h = rw (chars-IsAscii w (plain_ascii w h)) (plain_octets w h)

length_pieces : (cs : List ℕ) → length (map piece_text (map (λ c. Character c) cs)) ≡ length cs
length_pieces cs = length-map (map (λ c. Character c) cs) piece_text ∙ length-map cs (λ c. Character c)

-- a text has no more characters than octets
few_pieces : (w : List ℕ) (n : ℕ) → IsUtf8 w → length w ≤ n → length (map piece_text (map (λ c. Character c) (chars w))) ≤ n
few_pieces w n utf8 short = omega (arith, length_pieces (chars w), length-le-encodes (chars w), ap length (encodes-chars w utf8))

pub short_fits : (w : List ℕ) (n : ℕ) → IsUtf8 w → length w ≤ n → true ≡ nat_le (length (map piece_text (map (λ c. Character c) (chars w)))) n
short_fits w n utf8 short = let few = few_pieces w n utf8 short in grind (arith, nat_tests)

unescaped_characters : (cs : List ℕ) → list_all is_unescaped cs ≡ true → concat (map piece_text (map (λ c. Character c) cs)) ≡ encode_utf8_all cs
unescaped_characters [] h = refl
unescaped_characters (c ∷ cs) h =
    let k = both_true (is_unescaped c) (list_all is_unescaped cs) h in
    rw (unescaped_character c k.0, unescaped_characters cs k.1) refl

-- a text without escapes is written as it is
pub unescaped_whole : (w : List ℕ) (n : ℕ) → IsUtf8 w → list_all is_unescaped (chars w) ≡ true → length w ≤ n
    → w ≡ concat (take n (map piece_text (map (λ c. Character c) (chars w))))
unescaped_whole w n utf8 h short =
    rw (take_all n (map piece_text (map (λ c. Character c) (chars w))) (few_pieces w n utf8 short)) (sym (unescaped_characters (chars w) h ∙ encodes-chars w utf8))
