-- Texts of contents, and of characters and numbers in parts.
use Rattle.std.proofs.Common.{◌≡◌, ℕ, ◌+◌, ◌-◌, ◌<◌, ◌≤◌, Bool, true, false, ◌&&◌, not, Option, Some, None, is_some, List, [], ◌∷◌, ◌++◌, take, refl, sym, ap, ◌∙◌, arith, if◌then◌else◌}
use Rattle.std.proofs.lemmas.List.{append-nil, replicate-append-replicate, take-replicate}
use Rattle.std.specs.Char.{encode_utf8}
use Rattle.std.specs.Char.Utf16.{utf16_chars, is_high_surrogate, is_low_surrogate, lone_unit_char, surrogate_pair_char}
use Rattle.std.specs.declared.vec.Vec.{Vec}
use Rattle.std.specs.declared.alloc.Global.{Global}
use Rattle.der_base.specs.Pretty.{Style, spaces, further, content_text, items_text, list_text, leaf_text, characters_text, put_before}
use Rattle.der_base.specs.Spelling.{Forms}
use Rattle.der_object.specs.declared.object.BerObject.{BerObject}
use Rattle.der_object.specs.declared.object.BerObjectContent.{BerObjectContent}
use Rattle.der_object.specs.declared.object.BerObjectContent.TheVariants.{Null, Sequence, Set, Sequence', Set', Optional', Tagged'}
use Rattle.der_object.specs.declared.object.BerObjectContent.TheBlock.{shown-the_row-BerObject-0}
use Rattle.der_object.specs.Characters.{text_of_chars}
use Rattle.der_object.specs.HeaderFacts.{inner_forms, forms_of}
use Rattle.der_object.specs.View.{content_tree, trees}
use Rattle.der_object.proofs.HeaderFacts.{sequence_forms, set_forms}
use Rattle.der_object.proofs.Trees.{NotOptional, NotTagged, not_held, every_sequence, every_set, sequence_tree, set_tree}

pub sequence_text : (s : Style) (n t : ℕ) (v : Vec BerObject Global)
    → content_text s n t (content_tree (Sequence v)) (inner_forms (Sequence v)) ≡ list_text s n t (items_text s (further s n) (trees v.items) (forms_of v.items))
sequence_text s n t v =
    ap (λ x. content_text s n t x (inner_forms (Sequence v))) (sequence_tree v) ∙ ap (λ fs. list_text s n t (items_text s (further s n) (trees v.items) fs)) (sequence_forms v)

pub set_text : (s : Style) (n t : ℕ) (v : Vec BerObject Global)
    → content_text s n t (content_tree (Set v)) (inner_forms (Set v)) ≡ list_text s n t (items_text s (further s n) (trees v.items) (forms_of v.items))
set_text s n t v =
    ap (λ x. content_text s n t x (inner_forms (Set v))) (set_tree v) ∙ ap (λ fs. list_text s n t (items_text s (further s n) (trees v.items) fs)) (set_forms v)

-- a content that holds no object
pub leaf_content : (s : Style) (n t : ℕ) (x : BerObjectContent) (fs : Forms) → ((v : Vec BerObject Global) → x ≡ Sequence v → ⊥) → ((v : Vec BerObject Global) → x ≡ Set v → ⊥)
    → NotOptional x → NotTagged x → content_text s n t (content_tree x) fs ≡ leaf_text (content_tree x)
leaf_content s n t (Sequence' shape row) fs p q f g = absurd (p (shown-the_row-BerObject-0 shape row) (every_sequence shape row))
leaf_content s n t (Set' shape row) fs p q f g = absurd (q (shown-the_row-BerObject-0 shape row) (every_set shape row))
leaf_content s n t (Optional' held) fs p q f g = absurd (not_held held f)
leaf_content s n t (Tagged' c k b i x) fs p q f g = absurd (g c k _ refl)
leaf_content s n t Null fs p q f g = refl
leaf_content s n t _ fs p q f g = refl

pub not_true : (b : Bool) → not b ≡ true → b ≡ false
not_true true e = cc
not_true false e = refl

pub not_false : (b : Bool) → not b ≡ false → b ≡ true
not_false true e = refl
not_false false e = cc

pub if_shown : (b : Bool) (w : List ℕ) → b ≡ true → (if b then w else []) ≡ w
if_shown true w e = refl
if_shown false w e = cc

pub if_hidden : (b : Bool) (w : List ℕ) → b ≡ false → (if b then w else []) ≡ []
if_hidden true w e = cc
if_hidden false w e = refl

pub more_spaces : (count left : ℕ) → 64 < left → left ≤ count → spaces (count - (left - 64)) ≡ spaces (count - left) ++ spaces 64
more_spaces count left more within =
    let e : count - (left - 64) ≡ (count - left) + 64 = omega arith in
    rw e (sym (replicate-append-replicate {A = ℕ} (count - left) 64 0x20))

pub last_spaces : (count left : ℕ) → left ≤ count → spaces count ≡ spaces (count - left) ++ spaces left
last_spaces count left within =
    let e : count ≡ (count - left) + left = omega arith in
    ap spaces e ∙ sym (replicate-append-replicate {A = ℕ} (count - left) left 0x20)

pub some_spaces : (n : ℕ) → n ≤ 64 → take n (spaces 64) ≡ spaces n
some_spaces n within = take-replicate {X = ℕ} n 64 0x20 within

-- a unit of UTF-16 alone
pub lone_not_high : (u : ℕ) (us : List ℕ) → is_high_surrogate u ≡ false → utf16_chars (u ∷ us) ≡ lone_unit_char u ∷ utf16_chars us
unfolding utf16_chars
lone_not_high u [] e = refl
lone_not_high u (v ∷ us) e = rw e refl

pub lone_at_end : (u : ℕ) → utf16_chars (u ∷ []) ≡ lone_unit_char u ∷ utf16_chars []
unfolding utf16_chars
lone_at_end u = refl

and_not : (b : Bool) → (b && false) ≡ false
and_not true = refl
and_not false = refl

pub lone_not_low : (u v : ℕ) (us : List ℕ) → is_low_surrogate v ≡ false → utf16_chars (u ∷ v ∷ us) ≡ lone_unit_char u ∷ utf16_chars (v ∷ us)
unfolding utf16_chars
lone_not_low u v us e = rw (e, and_not (is_high_surrogate u)) refl

pub pair_of_units : (u v : ℕ) (us : List ℕ) → is_high_surrogate u ≡ true → is_low_surrogate v ≡ true → utf16_chars (u ∷ v ∷ us) ≡ Some (surrogate_pair_char u v) ∷ utf16_chars us
unfolding utf16_chars
pair_of_units u v us e f = rw (e, f) refl

-- the text of characters, one more in front
pub one_more_character : (o : Option ℕ) (cs : List (Option ℕ)) → is_some o ≡ true → is_some (characters_text (o ∷ cs)) ≡ is_some (characters_text cs)
one_more_character None cs e = cc
one_more_character (Some c) cs e = stays c (characters_text cs)
  where
    stays : (c : ℕ) (t : Option (List ℕ)) → is_some (put_before c t) ≡ is_some t
    stays c None = refl
    stays c (Some w) = refl

pub no_character : (o : Option ℕ) (cs : List (Option ℕ)) → is_some o ≡ false → is_some (characters_text (o ∷ cs)) ≡ false
no_character None cs e = refl
no_character (Some c) cs e = cc

pub text_in_front : (o : Option ℕ) (cs : List (Option ℕ)) → text_of_chars (o ∷ cs) ≡ text_of_chars (o ∷ []) ++ text_of_chars cs
text_in_front None cs = refl
text_in_front (Some c) cs = ap (λ w. w ++ text_of_chars cs) (sym (append-nil (encode_utf8 c)))

pub text_where_all : (cs : List (Option ℕ)) → is_some (characters_text cs) ≡ true → characters_text cs ≡ Some (text_of_chars cs)
text_where_all [] e = refl
text_where_all (None ∷ cs) e = cc
text_where_all (Some c ∷ cs) e =
    let f = text_where_all cs (sym (one_more_character (Some c) cs refl) ∙ e) in
    ap (put_before c) f

pub text_where_none : (cs : List (Option ℕ)) → is_some (characters_text cs) ≡ false → characters_text cs ≡ None
text_where_none cs e = is_nothing (characters_text cs) e
  where
    is_nothing : (t : Option (List ℕ)) → is_some t ≡ false → t ≡ None
    is_nothing None e = refl
    is_nothing (Some w) e = cc
