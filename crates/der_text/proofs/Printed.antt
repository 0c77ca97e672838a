-- Texts that are written: what they leave, and how they are put together.
use Rattle.std.proofs.Common.{◌≡◌, ℕ, ◌+◌, ◌-◌, ◌<◌, Bool, true, false, List, [], ◌∷◌, ◌++◌, length, drop, refl, sym, ap, ◌∙◌, subst, arith, length-append, append_assoc}
use Rattle.std.specs.Prelude.{MatchBool, not, Option, Some, None, Result, Ok, Err}
use Rattle.std.specs.List.{list_all}
use Rattle.std.specs.Result.{result_map_both}
use Rattle.std.proofs.Math.Seq.{drop-append-add}
use Rattle.std.proofs.lemmas.List.{append-nil}
use Rattle.hex.specs.Hex.{IsBytes, decode_of, encode_lower}
use Rattle.der_text.specs.declared.error.Fault.{Fault}
use Rattle.der_text.specs.declared.error.Problem.{Problem}
use Rattle.der_text.specs.declared.error.Problem.TheVariants.{Hexadecimal, Quote, Tag}
use Rattle.der_text.specs.declared.item.End.{End}
use Rattle.der_text.specs.declared.item.Form.{Form}
use Rattle.der_text.specs.declared.item.Form.TheVariants.{Shortest, Indefinite}
use Rattle.der_text.specs.declared.item.Item.{Item}
use Rattle.der_text.specs.declared.item.Item.TheVariants.{Octet, Open, Close}
use Rattle.der_text.specs.Encoded.{◌>>=◌, Following, after_length, all_before, before, following, length_octets, whole}
use Rattle.der_text.specs.Lexemes.{delimited, ends_part, if_decoded, is_word, items_of, lexeme, octet_items, part_before}
use Rattle.der_text.specs.Printed.{Leaves, Prints, Puts, PutsOpen, is_plain}
use Rattle.der_text.specs.Texts.{located, octets_of_text}
use Rattle.der_text.specs.Words.{known_octets, tag_octets, word_form, word_octets}
use Rattle.der_text.proofs.Delimiters.{close_lexeme, decoded, digits_inside, form_is, hexadecimal_lexeme, line_end_lexeme, octets_lexeme, open_lexeme, part_lexeme, quote_lexeme, quotes_inside, space_lexeme, tag_lexeme}
use Rattle.der_text.proofs.Sequences.{all_before_append, bind_assoc, joined}
use Rattle.der_text.proofs.Skips.{one_lexeme}

unbound : (r : Result (List Item) Fault) (s : Following) → (r >>= λ is. all_before is (following [] [])) ≡ Ok s
    → (is : List Item) × (r ≡ Ok is) × (all_before is (following [] []) ≡ Ok s)
unbound (Ok is) s h = (is, refl, h)
unbound (Err e) s h = cc

leaves_more : (c : ℕ) (cs : List ℕ) (is : List Item) (used : ℕ) (s t : Following) → lexeme c cs ≡ Ok (is, used)
    → Leaves (drop used cs) s → all_before is s ≡ Ok t → Leaves (c ∷ cs) t
leaves_more c cs is used s t e h k =
    let rest = unbound (items_of (drop used cs)) s h in
    ap (λ r. r >>= λ js. all_before js (following [] [])) (one_lexeme c cs is used e ∙ ap (joined is) rest.1)
    ∙ all_before_append is rest.0 (following [] []) ∙ ap (λ r. r >>= all_before is) rest.2 ∙ k

octets_before : (w : List ℕ) (s : Following) → all_before (octet_items w) s ≡ Ok (following (w ++ s.octets) s.ends)
octets_before [] s = refl
octets_before (o ∷ w) s = ap (λ r. r >>= before (Octet o)) (octets_before w s)

leaves_octets : (c : ℕ) (cs w rest : List ℕ) (used : ℕ) (s : Following) → lexeme c cs ≡ Ok (octet_items w, used)
    → drop used cs ≡ rest → Leaves rest s → Leaves (c ∷ cs) (following (w ++ s.octets) s.ends)
leaves_octets c cs w rest used s e d h =
    let P : List ℕ → Type 0 = λ x. Leaves x s in
    leaves_more c cs (octet_items w) used s (following (w ++ s.octets) s.ends) e (subst P (sym d) h) (octets_before w s)

leaves_space : (rest : List ℕ) (s : Following) → Leaves rest s → Leaves (32 ∷ rest) s
leaves_space rest s h = leaves_more 32 rest [] 0 s s (space_lexeme rest) h refl

leaves_line_end : (rest : List ℕ) (s : Following) → Leaves rest s → Leaves (10 ∷ rest) s
leaves_line_end rest s h = leaves_more 10 rest [] 0 s s (line_end_lexeme rest) h refl

-- ---- appending

pub puts_none : (a : List ℕ) → Puts a a []
puts_none a = record { text = []; added = sym (append-nil a); means = record { leaves = λ rest s h. h } }

pub puts_both : {a b c u v : List ℕ} → Puts a b u → Puts b c v → Puts a c (u ++ v)
puts_both {a = a} {u = u} {v = v} h k = record {
  text = h.text ++ k.text;
  added = k.added ∙ ap (λ x. x ++ k.text) h.added ∙ append_assoc a h.text k.text;
  means = record {
    leaves = λ rest s l.
        let P : List ℕ → Type 0 = λ x. Leaves x (following (u ++ (v ++ s.octets)) s.ends) in
        let Q : List ℕ → Type 0 = λ x. Leaves ((h.text ++ k.text) ++ rest) (following x s.ends) in
        let m = h.means.leaves (k.text ++ rest) (following (v ++ s.octets) s.ends) (k.means.leaves rest s l) in
        subst Q (sym (append_assoc u v s.octets)) (subst P (sym (append_assoc h.text k.text rest)) m);
  };
}

pub puts_then_none : {a b c w : List ℕ} → Puts a b w → Puts b c [] → Puts a c w
puts_then_none {a = a} {c = c} {w = w} h k = let P : List ℕ → Type 0 = λ x. Puts a c x in subst P (append-nil w) (puts_both h k)

pub puts_space : (a : List ℕ) → Puts a (a ++ 32 ∷ []) []
puts_space a = record { text = 32 ∷ []; added = refl; means = record { leaves = λ rest s h. leaves_space rest s h } }

pub puts_line_end : (a : List ℕ) → Puts a (a ++ 10 ∷ []) []
puts_line_end a = record { text = 10 ∷ []; added = refl; means = record { leaves = λ rest s h. leaves_line_end rest s h } }

-- ---- parts

-- between delimiters, and a space
between : (c d : ℕ) (p : Problem) (meaning : List ℕ → Option (List ℕ)) (old t w : List ℕ)
    → ((cs : List ℕ) → lexeme c cs ≡ delimited p meaning (part_before d cs))
    → list_all (λ x. not (ends_part d x)) t ≡ true → ends_part d d ≡ true → meaning t ≡ Some w
    → Puts old (((old ++ c ∷ []) ++ t) ++ d ∷ 32 ∷ []) w
between c d p meaning old t w is all stops m = record {
  text = c ∷ (t ++ d ∷ 32 ∷ []);
  added = append_assoc (old ++ c ∷ []) t (d ∷ 32 ∷ []) ∙ append_assoc old (c ∷ []) (t ++ d ∷ 32 ∷ []);
  means = record {
    leaves = λ rest s h.
        let P : List ℕ → Type 0 = λ x. Leaves (c ∷ x) (following (w ++ s.octets) s.ends) in
        let after = d ∷ 32 ∷ rest in
        subst P (sym (append_assoc t (d ∷ 32 ∷ []) rest))
        (leaves_octets c (t ++ after) w (32 ∷ rest) (length t + 1) s
        (part_lexeme c d p meaning t w (32 ∷ rest) is all stops m) (drop-append-add t after 1) (leaves_space rest s h));
  };
}

pub puts_quoted : (old w : List ℕ) → list_all is_plain w ≡ true → Puts old (((old ++ 34 ∷ []) ++ w) ++ 34 ∷ 32 ∷ []) w
puts_quoted old w all = between 34 34 Quote Some old w w quote_lexeme (quotes_inside w all) refl refl

pub puts_hexadecimal : (old w : List ℕ) → IsBytes w → Puts old (((old ++ 96 ∷ []) ++ encode_lower w) ++ 96 ∷ 32 ∷ []) w
puts_hexadecimal old w bytes =
    between 96 96 Hexadecimal (λ x. if_decoded (decode_of x)) old (encode_lower w) w hexadecimal_lexeme (digits_inside w) refl
    (decoded w bytes)

pub puts_tag : (old t w : List ℕ) → list_all (λ c. not (ends_part 93 c)) t ≡ true → tag_octets t ≡ Some w
    → Puts old (((old ++ 91 ∷ []) ++ t) ++ 93 ∷ 32 ∷ []) w
puts_tag old t w all e = between 91 93 Tag tag_octets old t w tag_lexeme all refl e

pub puts_word : (old t w : List ℕ) → 0 < length t → list_all is_word t ≡ true → word_octets t ≡ Some w
    → Puts old ((old ++ t) ++ 32 ∷ []) w
puts_word old [] w some all e = absurd (omega arith)
puts_word old (c ∷ t) w some all e = record {
  text = (c ∷ t) ++ 32 ∷ [];
  added = append_assoc old (c ∷ t) (32 ∷ []);
  means = record {
    leaves = λ rest s h.
        let P : List ℕ → Type 0 = λ x. Leaves (c ∷ x) (following (w ++ s.octets) s.ends) in
        let zero-more : length t + 0 ≡ length t = omega arith in
        let d : drop (length t) (t ++ 32 ∷ rest) ≡ 32 ∷ rest =
        ap (λ k. drop k (t ++ 32 ∷ rest)) (sym zero-more) ∙ drop-append-add t (32 ∷ rest) 0 in
        subst P (sym (append_assoc t (32 ∷ []) rest))
        (leaves_octets c (t ++ 32 ∷ rest) w (32 ∷ rest) (length t) s (octets_lexeme c t w 32 rest all refl e) d (leaves_space rest s h));
  };
}

end_octets : word_octets (69 ∷ 78 ∷ 68 ∷ []) ≡ Some (0 ∷ 0 ∷ [])
unfolding word_octets known_octets
end_octets = refl

puts_end : (a : List ℕ) → Puts a (a ++ 69 ∷ 78 ∷ 68 ∷ 10 ∷ []) (0 ∷ 0 ∷ [])
puts_end a = record {
  text = 69 ∷ 78 ∷ 68 ∷ 10 ∷ [];
  added = refl;
  means = record {
    leaves = λ rest s h.
        leaves_octets 69 (78 ∷ 68 ∷ 10 ∷ rest) (0 ∷ 0 ∷ []) (10 ∷ rest) 2 s
        (octets_lexeme 69 (78 ∷ 68 ∷ []) (0 ∷ 0 ∷ []) 10 rest refl refl end_octets) refl (leaves_line_end rest s h);
  };
}

-- ---- braces

opened_before : (f : Form) (left : ℕ) (w octets : List ℕ) (e : End) (es : List End)
    → length_octets f (length w - e.after) ≡ Some octets
    → all_before (Open f left ∷ []) (following w (e ∷ es)) ≡ Ok (following (octets ++ w) es)
opened_before f left w octets e es h = ap (after_length left w es) h

pub opens_shortest : (a : List ℕ) → PutsOpen a (a ++ 123 ∷ []) Shortest
opens_shortest a = record {
  text = 123 ∷ [];
  added = refl;
  opens = record {
    leaves = λ rest w e es octets h k.
        leaves_more 123 rest (Open Shortest (length rest + 1) ∷ []) 0 (following w (e ∷ es)) (following (octets ++ w) es)
        (open_lexeme rest) h (opened_before Shortest (length rest + 1) w octets e es k);
  };
}

pub opens_form : (old t : List ℕ) (f : Form) → 0 < length t → list_all is_word t ≡ true → word_octets t ≡ None
    → word_form t ≡ Some f → PutsOpen old ((old ++ t) ++ 32 ∷ 123 ∷ []) f
opens_form old [] f some all none is = absurd (omega arith)
opens_form old (c ∷ t) f some all none is = record {
  text = (c ∷ t) ++ 32 ∷ 123 ∷ [];
  added = append_assoc old (c ∷ t) (32 ∷ 123 ∷ []);
  opens = record {
    leaves = λ rest w e es octets h k.
        let P : List ℕ → Type 0 = λ x. Leaves (c ∷ x) (following (octets ++ w) es) in
        let Q : List ℕ → Type 0 = λ x. Leaves x (following w (e ∷ es)) in
        let after = 32 ∷ 123 ∷ rest in
        let left = length (t ++ after) + 1 in
        subst P (sym (append_assoc t (32 ∷ 123 ∷ []) rest))
        (leaves_more c (t ++ after) (Open f left ∷ []) (length t + 2) (following w (e ∷ es)) (following (octets ++ w) es)
        (form_is c t rest f all none is) (subst Q (sym (drop-append-add t after 2)) h) (opened_before f left w octets e es k));
  };
}

leaves_close : (rest : List ℕ) (s : Following) → Leaves rest s
    → Leaves (125 ∷ rest) (following s.octets (record { after = length s.octets; left = length rest + 1 } ∷ s.ends))
leaves_close rest s h =
    leaves_more 125 rest (Close (length rest + 1) ∷ []) 0 s
    (following s.octets (record { after = length s.octets; left = length rest + 1 } ∷ s.ends)) (close_lexeme rest) h refl

-- a content between braces, after its length octets
pub puts_braces : {a b c w octets : List ℕ} {f : Form} → PutsOpen a b f → Puts b c w → length_octets f (length w) ≡ Some octets
    → Puts a (c ++ 125 ∷ 10 ∷ []) (octets ++ w)
puts_braces {a = a} {b = b} {w = w} {octets = octets} {f = f} o p e =
    let z : List ℕ = 125 ∷ 10 ∷ [] in
    record {
      text = o.text ++ (p.text ++ z);
      added = ap (λ x. x ++ z) p.added ∙ append_assoc b p.text z ∙ ap (λ x. x ++ (p.text ++ z)) o.added
          ∙ append_assoc a o.text (p.text ++ z);
      means = record {
        leaves = λ rest s h.
            let end : End = record { after = length s.octets; left = length (10 ∷ rest) + 1 } in
            let closes = leaves_close (10 ∷ rest) s (leaves_line_end rest s h) in
            let content = p.means.leaves (125 ∷ 10 ∷ rest) (following s.octets (end ∷ s.ends)) closes in
            let n : length (w ++ s.octets) - length s.octets ≡ length w = omega (arith, length-append w s.octets) in
            let opens = o.opens.leaves (p.text ++ 125 ∷ 10 ∷ rest) (w ++ s.octets) end s.ends octets content (ap (length_octets f) n ∙ e) in
            let P : List ℕ → Type 0 = λ x. Leaves (o.text ++ x) (following (octets ++ (w ++ s.octets)) s.ends) in
            let Q : List ℕ → Type 0 = λ x. Leaves x (following (octets ++ (w ++ s.octets)) s.ends) in
            let R : List ℕ → Type 0 = λ x. Leaves ((o.text ++ (p.text ++ z)) ++ rest) (following x s.ends) in
            subst R (sym (append_assoc octets w s.octets))
            (subst Q (sym (append_assoc o.text (p.text ++ z) rest)) (subst P (sym (append_assoc p.text z rest)) opens));
      };
    }

-- ---- octets before a rest

pub prints_none : (a i : List ℕ) → Prints a a i i
prints_none a i = record { printed = []; parts = refl; puts = puts_none a }

pub prints_part : {a b w : List ℕ} (i rest : List ℕ) → i ≡ w ++ rest → Puts a b w → Prints a b i rest
prints_part {w = w} i rest e p = record { printed = w; parts = e; puts = p }

pub prints_all : {a b : List ℕ} (i rest : List ℕ) → rest ≡ [] → Puts a b i → Prints a b i rest
prints_all i rest e p = record { printed = i; parts = sym (append-nil i) ∙ ap (λ x. i ++ x) (sym e); puts = p }

pub prints_both : {a b c i j rest : List ℕ} → Prints a b i j → Prints b c j rest → Prints a c i rest
prints_both {rest = rest} h k = record {
  printed = h.printed ++ k.printed;
  parts = h.parts ∙ ap (λ x. h.printed ++ x) k.parts ∙ sym (append_assoc h.printed k.printed rest);
  puts = puts_both h.puts k.puts;
}

pub prints_then_none : {a b c i rest : List ℕ} → Prints a b i rest → Puts b c [] → Prints a c i rest
prints_then_none h k = record { printed = h.printed; parts = h.parts; puts = puts_then_none h.puts k }

-- an element without its identifier octets, of which `inner` is the content that is left
pub prints_braces : {a b c content inner octets i : List ℕ} {f : Form} → PutsOpen a b f → Prints b c content inner
    → i ≡ octets ++ content → ((n : ℕ) → length_octets f n ≡ Some octets) → Prints a (c ++ 125 ∷ 10 ∷ []) i inner
prints_braces {inner = inner} {octets = octets} o p e same = record {
  printed = octets ++ p.printed;
  parts = e ∙ ap (λ x. octets ++ x) p.parts ∙ sym (append_assoc octets p.printed inner);
  puts = puts_braces o p.puts (same (length p.printed));
}

pub printed_whole : {a b i rest : List ℕ} → Prints a b i rest → rest ≡ [] → Puts a b i
printed_whole {a = a} {b = b} {i = i} p e =
    let P : List ℕ → Type 0 = λ x. Puts a b x in
    subst P (sym (append-nil p.printed) ∙ ap (λ x. p.printed ++ x) (sym e) ∙ sym p.parts) p.puts

pub fewer : (i w rest : List ℕ) → i ≡ w ++ rest → 0 < length w → length rest < length i
fewer i w rest e some = omega (arith, ap length e, length-append w rest)

-- ---- a whole text

pub whole_text : {text w : List ℕ} → Puts [] text w → octets_of_text text ≡ Ok w
whole_text {text = text} {w = w} p =
    let l : Leaves (p.text ++ []) (following (w ++ []) []) = p.means.leaves [] (following [] []) refl in
    let P : List ℕ → Type 0 = λ x. Leaves x (following (w ++ []) []) in
    let Q : List ℕ → Type 0 = λ x. Leaves text (following x []) in
    let m : Leaves text (following w []) = subst Q (append-nil w) (subst P (append-nil p.text ∙ sym p.added) l) in
    ap (result_map_both (λ x. x) (located text))
    (sym (bind_assoc (items_of text) (λ is. all_before is (following [] [])) whole) ∙ ap (λ r. r >>= whole) m)

-- ---- as code appends them

replaced : {a b c w : List ℕ} → b ≡ c → Puts a c w → Puts a b w
replaced {a = a} {w = w} e p = let P : List ℕ → Type 0 = λ x. Puts a x w in subst P (sym e) p

pub pushed_space : {a b c : List ℕ} → Puts a b [] → c ≡ b ++ 32 ∷ [] → Puts a c []
pushed_space {b = b} p e = puts_then_none p (replaced e (puts_space b))

pub pushed_line_end : {a b : List ℕ} → b ≡ a ++ 10 ∷ [] → Puts a b []
pushed_line_end {a = a} e = replaced e (puts_line_end a)

pub pushed_word : {a b c : List ℕ} (t w : List ℕ) → b ≡ a ++ t → c ≡ b ++ 32 ∷ [] → (0 < length t) × (list_all is_word t ≡ true)
    → word_octets t ≡ Some w → Puts a c w
pushed_word {a = a} t w e f h o = replaced (f ∙ ap (λ x. x ++ 32 ∷ []) e) (puts_word a t w h.0 h.1 o)

appended : (c d : ℕ) (a t b x y : List ℕ) → b ≡ a ++ c ∷ [] → x ≡ b ++ t → y ≡ x ++ d ∷ 32 ∷ []
    → y ≡ ((a ++ c ∷ []) ++ t) ++ d ∷ 32 ∷ []
appended c d a t b x y e f g = g ∙ ap (λ u. u ++ d ∷ 32 ∷ []) (f ∙ ap (λ u. u ++ t) e)

pub pushed_tag : {a b x y : List ℕ} (t w : List ℕ) → b ≡ a ++ 91 ∷ [] → x ≡ b ++ t → y ≡ x ++ 93 ∷ 32 ∷ []
    → list_all (λ c. not (ends_part 93 c)) t ≡ true → tag_octets t ≡ Some w → Puts a y w
pushed_tag {a = a} {b = b} {x = x} {y = y} t w e f g all o = replaced (appended 91 93 a t b x y e f g) (puts_tag a t w all o)

pub pushed_quoted : {a b x y : List ℕ} (w : List ℕ) → b ≡ a ++ 34 ∷ [] → x ≡ b ++ w → y ≡ x ++ 34 ∷ 32 ∷ []
    → list_all is_plain w ≡ true → Puts a y w
pushed_quoted {a = a} {b = b} {x = x} {y = y} w e f g all = replaced (appended 34 34 a w b x y e f g) (puts_quoted a w all)

pub pushed_hexadecimal : {a b x y : List ℕ} (w : List ℕ) → b ≡ a ++ 96 ∷ [] → x ≡ b ++ encode_lower w → y ≡ x ++ 96 ∷ 32 ∷ []
    → IsBytes w → Puts a y w
pushed_hexadecimal {a = a} {b = b} {x = x} {y = y} w e f g bytes = replaced (appended 96 96 a (encode_lower w) b x y e f g) (puts_hexadecimal a w bytes)

pub pushed_end : {a b c : List ℕ} → Puts a b [] → c ≡ b ++ 69 ∷ 78 ∷ 68 ∷ 10 ∷ [] → Puts a c (0 ∷ 0 ∷ [])
pushed_end {b = b} p e = puts_both p (replaced e (puts_end b))

-- ---- elements

pub if_true : {P : Type 0} (Q : Type 0) (b : Bool) → b ≡ true → MatchBool b P Q → P
if_true Q true e h = h
if_true Q false e h = cc

pub if_false : {Q : Type 0} (P : Type 0) (b : Bool) → b ≡ false → MatchBool b P Q → Q
if_false P true e h = cc
if_false P false e h = h

from : {a b c w : List ℕ} → b ≡ a → Puts b c w → Puts a c w
from {c = c} {w = w} e p = let P : List ℕ → Type 0 = λ x. Puts x c w in subst P e p

pub puts_after : {a b c d w : List ℕ} → Puts a b [] → c ≡ b → Puts c d w → Puts a d w
puts_after s e p = puts_both s (from e p)

pub definite : {a b c d : List ℕ} {f : Form} (octets w rest : List ℕ) → PutsOpen a b f → Puts b c w
    → length_octets f (length w) ≡ Some octets → d ≡ c ++ 125 ∷ 10 ∷ [] → Prints a d (octets ++ (w ++ rest)) rest
definite octets w rest o p e f = record {
  printed = octets ++ w;
  parts = sym (append_assoc octets w rest);
  puts = replaced f (puts_braces o p e);
}

pub nothing : (l : List ℕ) → length l ≡ 0 → l ≡ []
nothing [] e = refl
nothing (x ∷ l) e = absurd (omega (arith, e))

pub indefinite : {a b c d e g inner : List ℕ} {f : Form} (octets w rest : List ℕ) → f ≡ Indefinite
    → length_octets f (length w) ≡ Some octets → length rest ≡ 0 → PutsOpen a b f → Puts b c [] → Prints c d w inner
    → Puts d e [] → g ≡ e ++ 125 ∷ 10 ∷ [] → Prints a g (octets ++ (w ++ rest)) inner
indefinite {a = a} {inner = inner} {f = f} octets w rest i k none o p q r s =
    let whole : Prints _ _ w inner = record { printed = q.printed; parts = q.parts; puts = puts_then_none (puts_both p q.puts) r } in
    let same : (n : ℕ) → length_octets f n ≡ Some octets =
    λ n. ap (λ x. length_octets x n) i ∙ ap (λ x. length_octets x (length w)) (sym i) ∙ k in
    let parts : octets ++ (w ++ rest) ≡ octets ++ w =
    ap (λ x. octets ++ (w ++ x)) (nothing rest none) ∙ ap (λ x. octets ++ x) (append-nil w) in
    let P : List ℕ → Type 0 = λ x. Prints a x (octets ++ (w ++ rest)) inner in
    subst P (sym s) (prints_braces o whole parts same)

-- an element after its identifier octets
pub identified : {a b c d inner : List ℕ} (octets id more : List ℕ) → octets ≡ id ++ more → Puts a b [] → Puts b c id
    → Prints c d more inner → Prints a d octets inner
identified octets id more e s p q = prints_both (prints_part octets more e (puts_both s p)) q

pub fewer_after : {c d : List ℕ} (octets id more inner : List ℕ) → octets ≡ id ++ more → 0 < length id → Prints c d more inner
    → length inner < length octets
fewer_after octets id more inner e some q =
    omega (arith, ap length e, length-append id more, ap length q.parts, length-append q.printed inner)

pub whole_from : {a text w : List ℕ} → a ≡ [] → Puts a text w → octets_of_text text ≡ Ok w
whole_from e p = whole_text (from e p)
