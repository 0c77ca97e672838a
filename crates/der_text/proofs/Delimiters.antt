-- Parts of texts: words, and what is between delimiters.
use Rattle.std.proofs.Common.{◌≡◌, ℕ, zero, suc, ◌+◌, ◌-◌, ◌/◌, ◌%◌, ◌==◌, ◌&&◌, Bool, true, false, List, [], ◌∷◌, ◌++◌, length, take, drop, slice_index, refl, sym, ap, ◌∙◌, arith, length-append}
use Rattle.std.specs.Prelude.{cond, if◌then◌else◌, nat_lt, not, position, Option, Some, None, Ok}
use Rattle.std.specs.List.{list_all, position_or_len, prefix_len}
use Rattle.std.specs.Option.{option_and_then}
use Rattle.std.proofs.Math.Seq.{take-append_seam, get_or-append_seam, drop-append-add}
use Rattle.std.proofs.lemmas.Bool.{eq-eqb}
use Rattle.std.proofs.lemmas.Bool.Decides.{nat_tests}
use Rattle.der_base.proofs.Oids.Arcs.{and_first, and_second}
use Rattle.hex.proofs.HexLemmas.{decode_of-encode_lower}
use Rattle.hex.specs.Hex.{IsBytes, decode_of, encode_lower, encode_with, lower_digits}
use Rattle.der_text.specs.declared.error.Problem.{Problem}
use Rattle.der_text.specs.declared.error.Problem.TheVariants.{Hexadecimal, Quote, Tag}
use Rattle.der_text.specs.declared.item.Form.{Form}
use Rattle.der_text.specs.declared.item.Form.TheVariants.{Shortest}
use Rattle.der_text.specs.declared.item.Item.TheVariants.{Open, Close}
use Rattle.der_text.specs.Lexemes.{delimited, ends_part, form_lexeme, if_decoded, is_blank, is_word, lexeme, meant, octet_items, part_before, word, word_lexeme, word_of}
use Rattle.der_text.specs.Words.{tag_octets, word_form, word_octets}
use Rattle.der_text.specs.Printed.{is_plain}

pub both : (a b : Bool) → a ≡ true → b ≡ true → (a && b) ≡ true
both a b h k = ap (λ x. x && b) h ∙ k

pub all_of : (p q : ℕ → Bool) → ((c : ℕ) → p c ≡ true → q c ≡ true) → (w : List ℕ) → list_all p w ≡ true → list_all q w ≡ true
all_of p q h [] all = refl
all_of p q h (c ∷ w) all =
    both (q c) (list_all q w) (h c (and_first (p c) (list_all p w) all)) (all_of p q h w (and_second (p c) (list_all p w) all))

pub all_taken : (p : ℕ → Bool) (w : List ℕ) → list_all p (take (prefix_len p w) w) ≡ true
all_taken p [] = refl
all_taken p (c ∷ w) = elim (p c) as (λ b. p c ≡ b → list_all p (take (cond b (1 + prefix_len p w) 0) (c ∷ w)) ≡ true) [
  | true ↦ λ e.
      let one : 1 + prefix_len p w ≡ suc (prefix_len p w) = omega arith in
      ap (λ n. list_all p (take n (c ∷ w))) one ∙ both (p c) (list_all p (take (prefix_len p w) w)) e (all_taken p w)
  | false ↦ λ e. refl
] refl

pub prefix : (p : ℕ → Bool) (w : List ℕ) (d : ℕ) (rest : List ℕ) → list_all p w ≡ true → p d ≡ false
    → prefix_len p (w ++ d ∷ rest) ≡ length w
prefix p [] d rest all stop = ap (λ b. cond b (1 + prefix_len p rest) 0) stop
prefix p (c ∷ w) d rest all stop =
    let e = prefix p w d rest (and_second (p c) (list_all p w) all) stop in
    let n : 1 + prefix_len p (w ++ d ∷ rest) ≡ suc (length w) = omega (arith, e) in
    ap (λ b. cond b (1 + prefix_len p (w ++ d ∷ rest)) 0) (and_first (p c) (list_all p w) all) ∙ n

pub part : (d : ℕ) (w rest : List ℕ) → list_all (λ c. not (ends_part d c)) w ≡ true → ends_part d d ≡ true
    → part_before d (w ++ d ∷ rest) ≡ Some w
part d w rest all stops =
    let text = w ++ d ∷ rest in
    let n : position_or_len (ends_part d) text ≡ length w = prefix (λ c. not (ends_part d c)) w d rest all (ap not stops) in
    let size : length text ≡ length w + suc (length rest) = length-append w (d ∷ rest) in
    let lt : nat_lt (length w) (length text) ≡ true = grind (arith, nat_tests) in
    let here : slice_index text (length w) ≡ d = get_or-append_seam w d rest 0 in
    let same : (slice_index text (length w) == d) ≡ true = eq-eqb (slice_index text (length w)) d here in
    let found : position (ends_part d) text ≡ Some (length w) =
    ap (λ k. cond (nat_lt k (length text)) (Some k) None) n ∙ ap (λ b. cond b (Some (length w)) None) lt in
    ap (option_and_then (λ k. if slice_index text k == d then Some (take k text) else None)) found
    ∙ ap (λ b. if b then Some (take (length w) text) else None) same ∙ ap Some (take-append_seam w (d ∷ rest))

pub part_lexeme : (c d : ℕ) (p : Problem) (meaning : List ℕ → Option (List ℕ)) (t w rest : List ℕ)
    → ((cs : List ℕ) → lexeme c cs ≡ delimited p meaning (part_before d cs))
    → list_all (λ x. not (ends_part d x)) t ≡ true → ends_part d d ≡ true → meaning t ≡ Some w
    → lexeme c (t ++ d ∷ rest) ≡ Ok (octet_items w, length t + 1)
part_lexeme c d p meaning t w rest is all stops m =
    is (t ++ d ∷ rest) ∙ ap (delimited p meaning) (part d t rest all stops) ∙ ap (meant p (length t)) m

pub quote_lexeme : (cs : List ℕ) → lexeme 34 cs ≡ delimited Quote Some (part_before 34 cs)
unfolding lexeme
quote_lexeme cs = refl

pub hexadecimal_lexeme : (cs : List ℕ) → lexeme 96 cs ≡ delimited Hexadecimal (λ w. if_decoded (decode_of w)) (part_before 96 cs)
unfolding lexeme
hexadecimal_lexeme cs = refl

pub tag_lexeme : (cs : List ℕ) → lexeme 91 cs ≡ delimited Tag tag_octets (part_before 93 cs)
unfolding lexeme
tag_lexeme cs = refl

pub space_lexeme : (cs : List ℕ) → lexeme 32 cs ≡ Ok ([], 0)
unfolding lexeme
space_lexeme cs = refl

pub line_end_lexeme : (cs : List ℕ) → lexeme 10 cs ≡ Ok ([], 0)
unfolding lexeme
line_end_lexeme cs = refl

pub open_lexeme : (cs : List ℕ) → lexeme 123 cs ≡ Ok (Open Shortest (length cs + 1) ∷ [], 0)
unfolding lexeme
open_lexeme cs = refl

pub close_lexeme : (cs : List ℕ) → lexeme 125 cs ≡ Ok (Close (length cs + 1) ∷ [], 0)
unfolding lexeme
close_lexeme cs = refl

past : {A : Type 0} (b : Bool) (x y : A) → b ≡ false → (if b then x else y) ≡ y
past b x y e = ap (λ v. if v then x else y) e

pub word_first : (c : ℕ) (cs : List ℕ) → is_word c ≡ true → lexeme c cs ≡ word (length cs + 1) (c ∷ cs)
unfolding lexeme
word_first c cs h =
    let blank : is_blank c ≡ false = grind (arith, nat_tests) in
    let comment : (c == 35) ≡ false = grind (arith, nat_tests) in
    let open' : (c == 123) ≡ false = grind (arith, nat_tests) in
    let close' : (c == 125) ≡ false = grind (arith, nat_tests) in
    let quote : (c == 34) ≡ false = grind (arith, nat_tests) in
    let tick : (c == 96) ≡ false = grind (arith, nat_tests) in
    let bracket : (c == 91) ≡ false = grind (arith, nat_tests) in
    past (is_blank c) _ _ blank ∙ past (c == 35) _ _ comment ∙ past (c == 123) _ _ open' ∙ past (c == 125) _ _ close'
    ∙ past (c == 34) _ _ quote ∙ past (c == 96) _ _ tick ∙ past (c == 91) _ _ bracket

-- a word and what ends it
split_word : (c : ℕ) (cs : List ℕ) (d : ℕ) (rest : List ℕ) → list_all is_word (c ∷ cs) ≡ true → is_word d ≡ false
    → lexeme c (cs ++ d ∷ rest) ≡ word_lexeme (word_octets (c ∷ cs)) (word_form (c ∷ cs)) (length (cs ++ d ∷ rest) + 1) (suc (length cs)) (d ∷ rest)
split_word c cs d rest all stop =
    let after = cs ++ d ∷ rest in
    let left = length after + 1 in
    let n : prefix_len is_word (c ∷ after) ≡ suc (length cs) = prefix is_word (c ∷ cs) d rest all stop in
    let t : take (suc (length cs)) (c ∷ after) ≡ c ∷ cs = take-append_seam (c ∷ cs) (d ∷ rest) in
    let zero-more : suc (length cs) + 0 ≡ suc (length cs) = omega arith in
    let e : drop (suc (length cs)) (c ∷ after) ≡ d ∷ rest =
    ap (λ k. drop k (c ∷ after)) (sym zero-more) ∙ drop-append-add (c ∷ cs) (d ∷ rest) 0 in
    word_first c after (and_first (is_word c) (list_all is_word cs) all) ∙ ap (word_of left (c ∷ after)) n
    ∙ ap (λ w. word_lexeme (word_octets w) (word_form w) left (suc (length cs)) (drop (suc (length cs)) (c ∷ after))) t
    ∙ ap (word_lexeme (word_octets (c ∷ cs)) (word_form (c ∷ cs)) left (suc (length cs))) e

pub octets_lexeme : (c : ℕ) (cs o : List ℕ) (d : ℕ) (rest : List ℕ) → list_all is_word (c ∷ cs) ≡ true → is_word d ≡ false
    → word_octets (c ∷ cs) ≡ Some o → lexeme c (cs ++ d ∷ rest) ≡ Ok (octet_items o, length cs)
octets_lexeme c cs o d rest all stop e =
    let left = length (cs ++ d ∷ rest) + 1 in
    let less : suc (length cs) - 1 ≡ length cs = omega arith in
    split_word c cs d rest all stop ∙ ap (λ x. word_lexeme x (word_form (c ∷ cs)) left (suc (length cs)) (d ∷ rest)) e
    ∙ ap (λ n. Ok (octet_items o, n)) less

pub form_is : (c : ℕ) (cs rest : List ℕ) (f : Form) → list_all is_word (c ∷ cs) ≡ true → word_octets (c ∷ cs) ≡ None
    → word_form (c ∷ cs) ≡ Some f
    → lexeme c (cs ++ 32 ∷ 123 ∷ rest) ≡ Ok (Open f (length (cs ++ 32 ∷ 123 ∷ rest) + 1) ∷ [], length cs + 2)
form_is c cs rest f all none e =
    let left = length (cs ++ 32 ∷ 123 ∷ rest) + 1 in
    let after = 32 ∷ 123 ∷ rest in
    let more : suc (length cs) + 1 ≡ length cs + 2 = omega arith in
    split_word c cs 32 (123 ∷ rest) all refl ∙ ap (λ x. word_lexeme x (word_form (c ∷ cs)) left (suc (length cs)) after) none
    ∙ ap (λ x. form_lexeme x left (suc (length cs)) after) e ∙ ap (λ n. Ok (Open f left ∷ [], n)) more

-- what may be in quotes doesn't end them
plain_inside : (c : ℕ) → is_plain c ≡ true → not (ends_part 34 c) ≡ true
plain_inside c h = grind (arith, nat_tests)

pub quotes_inside : (w : List ℕ) → list_all is_plain w ≡ true → list_all (λ c. not (ends_part 34 c)) w ≡ true
quotes_inside w h = all_of is_plain (λ c. not (ends_part 34 c)) plain_inside w h

-- digits don't end digits
at : (p : ℕ → Bool) (t : List ℕ) (k : ℕ) → list_all p t ≡ true → p 0 ≡ true → p (slice_index t k) ≡ true
at p [] zero all none = none
at p [] (suc k) all none = none
at p (x ∷ t) zero all none = and_first (p x) (list_all p t) all
at p (x ∷ t) (suc k) all none = at p t k (and_second (p x) (list_all p t) all) none

pub digits_inside : (w : List ℕ) → list_all (λ c. not (ends_part 96 c)) (encode_lower w) ≡ true
unfolding encode_with
digits_inside [] = refl
digits_inside (b ∷ w) =
    let p : ℕ → Bool = λ c. not (ends_part 96 c) in
    both _ _ (at p lower_digits (b / 16) refl refl) (both _ _ (at p lower_digits (b % 16) refl refl) (digits_inside w))

pub decoded : (w : List ℕ) → IsBytes w → if_decoded (decode_of (encode_lower w)) ≡ Some w
decoded w h = ap if_decoded (decode_of-encode_lower w h)
