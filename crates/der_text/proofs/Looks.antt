-- How texts are put together from their parts.
use Rattle.std.proofs.Common.{◌≡◌, ℕ, zero, suc, ◌+◌, ◌*◌, ◌^◌, ◌<◌, List, [], ◌∷◌, ◌++◌, length, refl, sym, ap, ◌∙◌, subst, arith, append_assoc}
use Rattle.std.specs.Prelude.{Bool, true, false, ◌&&◌, ◌↔◌, IsTrue, nat_lt, if◌then◌else◌, Option, None, Some, IfSome, codes, decimal}
use Rattle.std.specs.Option.{option_and_then, option_map}
use Rattle.std.specs.Str.Parse.{digits_value}
use Rattle.std.proofs.lemmas.Bool.Decides.{nat_tests}
use Rattle.std.proofs.lemmas.List.{append-nil}
use Rattle.der_base.specs.Octets.{shortest_integer}
use Rattle.der_base.specs.Pretty.{spaces}
use Rattle.der_text.specs.declared.element.Element.{Element}
use Rattle.der_text.specs.declared.item.Form.{Form}
use Rattle.der_text.specs.declared.item.Form.TheVariants.{Shortest, Long, Indefinite}
use Rattle.der_text.specs.Looks.{BeginsWithEnd, BracesText, ContentText, ElementText, ElementsText, HasElements, HasFirst}
use Rattle.der_text.specs.Looks.{HasWord, InParts, IsFirst, IsText, IsToEnd, IsValueText, LineText, NamesElement, OctetsText}
use Rattle.der_text.specs.Looks.{ToEndText, ValueText, after_part, all_octets, break_text, element, element_before, elements}
use Rattle.der_text.specs.Looks.{end_octets, form_word, is_broken, named, no_end, no_more, no_octets, octets, open_text, part}
use Rattle.der_text.specs.Looks.{part_text, to_end, too_deep, too_deep_to_end, unnamed, value, whole, word}
use Rattle.der_text.specs.Printed.{Adds, HasCount, PutsOpen}
use Rattle.der_text.specs.Words.{identifier_octets, integer_octets, known_octets, long_form, or_else, word_form, word_octets}
use Rattle.der_text.proofs.Numbers.{decimal_in_word, decimal_reads_back}
use Rattle.der_text.proofs.Printed.{opens_form, opens_shortest}

one_after : (n : ℕ) → spaces n ++ 32 ∷ [] ≡ spaces (suc n)
one_after zero = refl
one_after (suc n) = ap (λ x. 32 ∷ x) (one_after n)

pub one_more : (n : ℕ) → spaces n ++ 32 ∷ [] ≡ spaces (n + 1)
one_more n = let e : suc n ≡ n + 1 = omega arith in one_after n ∙ ap spaces e

-- ---- forms of lengths

and_false : (b : Bool) → (b && false) ≡ false
and_false true = refl
and_false false = refl

indefinite_has_no_octets : word_octets (codes "indefinite") ≡ None
unfolding word_octets known_octets integer_octets identifier_octets
indefinite_has_no_octets = refl

names_indefinite : word_form (codes "indefinite") ≡ Some Indefinite
unfolding word_form
names_indefinite = refl

long_has_no_octets : (ds : List ℕ) → word_octets (codes "long-form:" ++ ds) ≡ None
unfolding word_octets known_octets integer_octets identifier_octets
long_has_no_octets ds =
    let w = codes "long-form:" ++ ds in
    ap (λ b. or_else (option_map shortest_integer (if b then Some (digits_value 10 w) else None)) None)
    (and_false (nat_lt 0 (length w)))

names_long : (n : ℕ) → n < 256 → word_form (codes "long-form:" ++ decimal n) ≡ Some (Long n)
unfolding word_form
names_long n small =
    let e : n < 2 ^ 64 = omega (arith, small) in
    let t : nat_lt n 256 ≡ true = grind (arith, nat_tests, small) in
    ap (option_and_then long_form) (decimal_reads_back n e) ∙ ap (λ b. if b then Some (Long n) else None) t

appended : (a t : List ℕ) → (a ++ (t ++ 32 ∷ [])) ++ 123 ∷ [] ≡ (a ++ t) ++ 32 ∷ 123 ∷ []
appended a t = ap (λ x. x ++ 123 ∷ []) (sym (append_assoc a t (32 ∷ []))) ∙ append_assoc (a ++ t) (32 ∷ []) (123 ∷ [])

puts_form : (a : List ℕ) (f : Form) → HasCount f → PutsOpen a ((a ++ form_word f) ++ 123 ∷ []) f
puts_form a Shortest h =
    let P : List ℕ → Type 0 = λ x. PutsOpen a (x ++ 123 ∷ []) Shortest in subst P (sym (append-nil a)) (opens_shortest a)
puts_form a (Long n) h =
    let P : List ℕ → Type 0 = λ x. PutsOpen a x (Long n) in
    let t = codes "long-form:" ++ decimal n in
    let some : 0 < length t = omega arith in
    subst P (sym (appended a t)) (opens_form a t (Long n) some (decimal_in_word n (omega (arith, h))) (long_has_no_octets (decimal n)) (names_long n h))
puts_form a Indefinite h =
    let P : List ℕ → Type 0 = λ x. PutsOpen a x Indefinite in
    subst P (sym (appended a (codes "indefinite"))) (opens_form a (codes "indefinite") Indefinite (omega arith) refl indefinite_has_no_octets names_indefinite)

pub opened_by_word : {a b c w : List ℕ} (f : Form) → HasCount f → w ≡ form_word f → b ≡ a ++ w → c ≡ b ++ 123 ∷ [] → PutsOpen a c f
opened_by_word {a = a} f h e p q =
    let P : List ℕ → Type 0 = λ x. PutsOpen a x f in
    subst P (sym (q ∙ ap (λ x. x ++ 123 ∷ []) (p ∙ ap (λ x. a ++ x) e))) (puts_form a f h)

-- ---- step by step

-- something is written of octets, and the rest of them is left
pub record SoFar (L : List ℕ → List ℕ → List ℕ → Type 0) (old new w rest : List ℕ) : Type 0 where
  pub written : List ℕ
  pub added : new ≡ old ++ written
  pub more : (after out : List ℕ) → L rest after out → L w after (written ++ out)

pub no_step : {L : List ℕ → List ℕ → List ℕ → Type 0} (a w : List ℕ) → SoFar L a a w w
no_step a w = record { written = []; added = sym (append-nil a); more = λ after out h. h }

pub one_step : {L : List ℕ → List ℕ → List ℕ → Type 0} {a b c w rest rest' : List ℕ} (t : List ℕ) → SoFar L a b w rest → c ≡ b ++ t
    → ((after out : List ℕ) → L rest' after out → L rest after (t ++ out)) → SoFar L a c w rest'
one_step {L = L} {a = a} {w = w} t h e f = record {
  written = h.written ++ t;
  added = e ∙ ap (λ x. x ++ t) h.added ∙ append_assoc a h.written t;
  more = λ after out k.
      let P : List ℕ → Type 0 = λ x. L w after x in
      subst P (sym (append_assoc h.written t out)) (h.more after (t ++ out) (f after out k));
}

pub last_step : {L : List ℕ → List ℕ → List ℕ → Type 0} {a b c w rest : List ℕ} (after t : List ℕ) → SoFar L a b w rest → c ≡ b ++ t
    → L rest after t → Adds a c (L w after)
last_step {a = a} after t h e k = record {
  text = h.written ++ t;
  added = e ∙ ap (λ x. x ++ t) h.added ∙ append_assoc a h.written t;
  looks = h.more after t k;
}

pub all_steps : {L : List ℕ → List ℕ → List ℕ → Type 0} {a b w rest : List ℕ} (after : List ℕ) → SoFar L a b w rest → L rest after []
    → Adds a b (L w after)
all_steps {b = b} after h k = last_step after [] h (sym (append-nil b)) k

-- ---- octets in parts

abbrev pub PartsSoFar : Bool → ℕ → List ℕ → List ℕ → List ℕ → List ℕ → Type 0
PartsSoFar text indent old new w rest = SoFar (λ v after out. InParts text indent v out) old new w rest

pub one_part : {text : Bool} {indent : ℕ} {a b c d w rest rest' : List ℕ} → PartsSoFar text indent a b w rest → 0 < length rest
    → c ≡ b ++ part_text text rest → rest' ≡ after_part text rest → d ≡ c ++ break_text (is_broken text rest') indent
    → PartsSoFar text indent a d w rest'
one_part {text = text} {indent = indent} {b = b} {rest = rest} {rest' = rest'} h some e f g =
    let p = part_text text rest in
    let z = break_text (is_broken text (after_part text rest)) indent in
    one_step (p ++ z) h
    (g ∙ ap (λ x. x ++ break_text (is_broken text rest') indent) e ∙ ap (λ x. (b ++ p) ++ break_text (is_broken text x) indent) f
    ∙ append_assoc b p z)
    (λ after out k.
    let P : List ℕ → Type 0 = λ x. InParts text indent x out in
    let Q : List ℕ → Type 0 = λ x. InParts text indent rest x in
    subst Q (sym (append_assoc p z out)) (part rest out some (subst P f k)))

pub all_parts : {text : Bool} {indent : ℕ} {a b w rest : List ℕ} → (IsTrue text ↔ IsText w) → rest ≡ []
    → PartsSoFar text indent a b w rest → Adds a b (OctetsText indent w)
all_parts {text = text} {indent = indent} is e h =
    let P : List ℕ → Type 0 = λ x. InParts text indent x [] in
    let k = all_steps [] h (subst P (sym e) no_octets) in
    record { text = k.text; added = k.added; looks = record { text = text; is_text = is; parts = k.looks } }

-- ---- values

pub value_word : {a b : List ℕ} (x : Element) (indent : ℕ)
    → (t : List ℕ) × IsValueText x.header x.content.now (Some t) × HasWord t x.content.now × (b ≡ a ++ (t ++ 32 ∷ []))
    → Adds a b (ValueText x indent)
value_word x indent h = record { text = h.0 ++ 32 ∷ []; added = h.3; looks = word h.0 h.1 h.2 }

pub value_octets : {a b c : List ℕ} (x : Element) (indent : ℕ)
    → (found : Option (List ℕ)) × IsValueText x.header x.content.now found
    × IfSome found (λ t. ¬ HasWord t x.content.now) × (b ≡ a)
    → Adds b c (OctetsText indent x.content.now) → Adds a c (ValueText x indent)
value_octets x indent h k = record {
  text = k.text;
  added = k.added ∙ ap (λ z. z ++ k.text) h.3;
  looks = octets h.0 h.1 h.2 k.text k.looks;
}

-- ---- elements

at_indent : {w t : List ℕ} {n m : ℕ} → n ≡ m → OctetsText n w t → OctetsText m w t
at_indent {w = w} {t = t} e h = let P : ℕ → Type 0 = λ n. OctetsText n w t in subst P e h

at_limit : {n : ℕ} (d : ℕ) → d ≡ 100 → n ≡ 2 * d + 2 → n ≡ 202
at_limit d e f = omega (arith, e, f)

pub deep_elements : {a b w : List ℕ} {n : ℕ} (d : ℕ) → d ≡ 100 → n ≡ 2 * d + 2 → Adds a b (OctetsText n w)
    → Adds a b (ElementsText d w)
deep_elements {w = w} d e f h =
    let P : ℕ → Type 0 = λ k. ElementsText k w h.text in
    record { text = h.text; added = h.added; looks = subst P (sym e) (too_deep w h.text (at_indent (at_limit d e f) h.looks)) }

pub next_element : {a b c w rest after : List ℕ} (d : ℕ) → d < 100 → SoFar (λ v x out. ElementsText d v out) a b w rest
    → Adds b c (ElementText d rest after) → SoFar (λ v x out. ElementsText d v out) a c w after
next_element {rest = rest} {after = after} d small h k =
    one_step k.text h k.added (λ x out l. element d rest after k.text out small k.looks l)

pub last_element : {a b w rest : List ℕ} (d : ℕ) → d < 100 → rest ≡ [] → SoFar (λ v x out. ElementsText d v out) a b w rest
    → Adds a b (ElementsText d w)
last_element d small e h =
    let P : List ℕ → Type 0 = λ x. ElementsText d x [] in all_steps [] h (subst P (sym e) (no_more d small))

pub next_before : {a b c w rest after : List ℕ} (d : ℕ) → d < 100 → ¬ BeginsWithEnd rest → SoFar (ToEndText d) a b w rest
    → Adds b c (ElementText d rest after) → SoFar (ToEndText d) a c w after
next_before {rest = rest} {after = after} d small n h k =
    one_step k.text h k.added (λ x out l. element_before d rest after x k.text out small n k.looks l)

pub at_end : {a b c w rest : List ℕ} (d : ℕ) (after : List ℕ) → rest ≡ 0 ∷ 0 ∷ after → SoFar (ToEndText d) a b w rest
    → c ≡ b ++ (spaces (2 * d) ++ codes "END\n") → Adds a c (ToEndText d w after)
at_end d after e h f =
    let t = spaces (2 * d) ++ codes "END\n" in
    let P : List ℕ → Type 0 = λ x. ToEndText d x after t in last_step after t h f (subst P (sym e) (end_octets d after))

pub deep_to_end : {a b c w rest : List ℕ} {n : ℕ} (d : ℕ) → d ≡ 100 → n ≡ 2 * d + 2 → 0 < length rest → ¬ BeginsWithEnd rest
    → SoFar (ToEndText d) a b w rest → Adds b c (OctetsText n rest) → Adds a c (ToEndText d w [])
deep_to_end {rest = rest} d e f some none h k =
    let P : ℕ → Type 0 = λ x. ToEndText x rest [] k.text in
    last_step [] k.text h k.added
    (subst P (sym e) (too_deep_to_end rest k.text some none (at_indent (at_limit d e f) k.looks)))

pub without_end : {a b w rest : List ℕ} (d : ℕ) → rest ≡ [] → SoFar (ToEndText d) a b w rest → Adds a b (ToEndText d w rest)
without_end {rest = rest} d e h =
    let P : List ℕ → Type 0 = λ x. ToEndText d x x [] in all_steps rest h (subst P (sym e) (no_end d))

line_at : {a b w : List ℕ} {n m : ℕ} → n ≡ m → Adds a b (LineText n w) → Adds a b (LineText m w)
line_at {a = a} {b = b} {w = w} e h = let P : ℕ → Type 0 = λ n. Adds a b (LineText n w) in subst P e h

lines : {a b c w : List ℕ} {n : ℕ} (d : ℕ) → b ≡ a ++ spaces (2 * d) → n ≡ 2 * d + 2 → Adds b c (LineText n w)
    → ((out : List ℕ) → OctetsText (2 * d + 2) w out → ElementText d w [] (spaces (2 * d) ++ (out ++ 10 ∷ [])))
    → Adds a c (ElementText d w [])
lines {a = a} {w = w} d e f h g =
    let s = spaces (2 * d) in
    let k = line_at f h in
    let P : List ℕ → Type 0 = λ x. ElementText d w [] (s ++ x) in
    record {
      text = s ++ k.text;
      added = k.added ∙ ap (λ x. x ++ k.text) e ∙ append_assoc a s k.text;
      looks = subst P (sym k.looks.2) (g k.looks.0 k.looks.1);
    }

pub no_element : {a b c w : List ℕ} {n : ℕ} (d : ℕ) → 0 < length w → ¬ HasFirst w → b ≡ a ++ spaces (2 * d) → n ≡ 2 * d + 2
    → Adds b c (LineText n w) → Adds a c (ElementText d w [])
no_element {w = w} d some none e f h = lines d e f h (λ out k. all_octets d w out some none k)

pub no_name : {a b b' c w : List ℕ} {n : ℕ} (d : ℕ) (x : Element) → IsFirst w x → b ≡ a ++ spaces (2 * d)
    → ((name : List ℕ) → ¬ NamesElement x name) × (b' ≡ b) → n ≡ 2 * d + 2
    → Adds b' c (LineText n w) → Adds a c (ElementText d w [])
no_name {w = w} d x first e none f h = lines d (none.1 ∙ e) f h (λ out k. unnamed d w out x first none.0 k)

pub element_by_name : {a b c g w rest : List ℕ} (d : ℕ) (x : Element) → IsFirst w x → b ≡ a ++ spaces (2 * d)
    → Adds b c (NamesElement x) → Adds c g (BracesText d x rest) → Adds a g (ElementText d w rest)
element_by_name {a = a} {b = b} {w = w} {rest = rest} d x first e h k =
    let s = spaces (2 * d) in
    record {
      text = s ++ (h.text ++ k.text);
      added = k.added ∙ ap (λ y. y ++ k.text) h.added ∙ append_assoc b h.text k.text
          ∙ ap (λ y. y ++ (h.text ++ k.text)) e ∙ append_assoc a s (h.text ++ k.text);
      looks = named d w rest h.text k.text x first h.looks k.looks;
    }

between : {a b c g : List ℕ} {P : List ℕ → Type 0} (s e : List ℕ) (Q : List ℕ → Type 0) → b ≡ a ++ s → Adds b c P → g ≡ c ++ e
    → ((out : List ℕ) → P out → Q (s ++ (out ++ e))) → Adds a g Q
between {a = a} {b = b} s e Q f h k m = record {
  text = s ++ (h.text ++ e);
  added = k ∙ ap (λ x. x ++ e) h.added ∙ append_assoc b h.text e ∙ ap (λ x. x ++ (h.text ++ e)) f
      ∙ append_assoc a s (h.text ++ e);
  looks = m h.text h.looks;
}

pub braces_to_end : {a b c g j m rest : List ℕ} (d : ℕ) (x : Element) → IsToEnd x → b ≡ a ++ open_text x.form → c ≡ b ++ 10 ∷ []
    → Adds c g (ToEndText (d + 1) x.content.now rest) → j ≡ g ++ spaces (2 * d) → m ≡ j ++ 125 ∷ 10 ∷ []
    → Adds a m (BracesText d x rest)
braces_to_end {a = a} {g = g} {rest = rest} d x is e f h k l =
    let s = open_text x.form in
    let z : List ℕ = spaces (2 * d) ++ 125 ∷ 10 ∷ [] in
    let P : List ℕ → Type 0 = λ y. BracesText d x rest y in
    between (s ++ 10 ∷ []) z P (f ∙ ap (λ y. y ++ 10 ∷ []) e ∙ append_assoc a s (10 ∷ [])) h
    (l ∙ ap (λ y. y ++ 125 ∷ 10 ∷ []) k ∙ append_assoc g (spaces (2 * d)) (125 ∷ 10 ∷ []))
    (λ out o. subst P (sym (append_assoc s (10 ∷ []) (out ++ z))) (to_end d x rest out is o))

pub braces_whole : {a b c g : List ℕ} (d : ℕ) (x : Element) → ¬ IsToEnd x → b ≡ a ++ open_text x.form → Adds b c (ContentText d x)
    → g ≡ c ++ 125 ∷ 10 ∷ [] → Adds a g (BracesText d x x.rest.now)
braces_whole d x n e h k =
    between (open_text x.form) (125 ∷ 10 ∷ []) (BracesText d x x.rest.now) e h k (λ out o. whole d x out n o)

pub content_elements : {a b c g : List ℕ} (d : ℕ) (x : Element) → HasElements x → b ≡ a ++ 10 ∷ []
    → Adds b c (ElementsText (d + 1) x.content.now) → g ≡ c ++ spaces (2 * d) → Adds a g (ContentText d x)
content_elements d x is e h k =
    between (10 ∷ []) (spaces (2 * d)) (ContentText d x) e h k (λ out o. elements d x out is o)

pub content_value : {a b c : List ℕ} {n : ℕ} (d : ℕ) (x : Element) → ¬ HasElements x → b ≡ a ++ spaces 1 → n ≡ 2 * d + 2
    → Adds b c (ValueText x n) → Adds a c (ContentText d x)
content_value {a = a} {b = b} {c = c} d x none e f h =
    let P : ℕ → Type 0 = λ k. Adds b c (ValueText x k) in
    let k = subst P f h in
    record {
      text = 32 ∷ k.text;
      added = k.added ∙ ap (λ y. y ++ k.text) e ∙ append_assoc a (32 ∷ []) k.text;
      looks = value d x k.text none k.looks;
    }

pub whole_looks : {a b w : List ℕ} {d : ℕ} → a ≡ [] → Adds a b (ElementsText d w) → ElementsText d w b
whole_looks {w = w} {d = d} e h =
    let P : List ℕ → Type 0 = λ x. ElementsText d w x in
    subst P (sym (h.added ∙ ap (λ x. x ++ h.text) e)) h.looks
