-- Elements at the start of an input: their headers, and what is left after them.
use Rattle.std.proofs.Common.{◌≡◌, ℕ, zero, suc, ◌-◌, ◌<◌, ◌≤◌, Bool, true, false, List, [], ◌∷◌, ◌++◌, length, Option}
use Rattle.std.proofs.Common.{Some, None, Ok, Err, refl, sym, ap, subst, ◌∙◌, arith, append_assoc, take, drop}
use Rattle.std.specs.Prelude.{IfSome}
use Rattle.std.specs.Borrow.{Bor}
use Rattle.std.proofs.lemmas.List.{append-nil, nil_from_length, take-append-drop}
use Rattle.der_base.specs.declared.error.Err.{Err as Refused}
use Rattle.der_base.specs.declared.error.Error.{Error as BerError}
use Rattle.der_base.specs.declared.header.Class.{Class}
use Rattle.der_base.specs.declared.header.Length.{Length}
use Rattle.der_base.specs.declared.header.Length.TheVariants.{Definite, Indefinite}
use Rattle.der_base.specs.declared.header.Header.{Header}
use Rattle.der_base.specs.declared.rules.Rules.{Rules}
use Rattle.der_base.specs.Header.{class_of, is_constructed, number_of, length_of}
use Rattle.der_base.specs.Headers.{LeadingHeader, leading_header}
use Rattle.der_base.specs.Octets.{identifier}
use Rattle.der_base.specs.Rules.{AnswersHeader, SpellsHeaderBy}
use Rattle.der_base.specs.Spelling.{end_marker}
use Rattle.der_base.proofs.Framing.Elements.{definite_part, open_part}
use Rattle.der_base.proofs.Octets.Identifiers.{fronts_same}
use Rattle.der_elements.specs.Check.Elements.{AreElements, IsElement, none, one_more, primitive, constructed, indefinite}
use Rattle.der_elements.specs.Check.Elements.{MayBeConstructed, MayHaveContent, SpellsLengthBy}
use Rattle.der_elements.specs.Check.Readers.{Finds, BeginsWithContent, BeginsWithElement, BeginsWithElements}
use Rattle.der_elements.specs.Check.Readers.{BeginsWithOpenContent, BeginsWithPart, Follows}
use Rattle.der_elements.proofs.CheckLaws.FirstOctets.{zero_first, constructed_first}
use Rattle.der_elements.proofs.CheckLaws.HeadersBy.{spells_definite, definite_spelled, spells_open, open_spelled}
use Rattle.der_elements.proofs.CheckLaws.HeadersBy.{header_only, header_read, header_refused, header_shorter}

-- an element doesn't begin with the octet of an end marker
pub no_zero_first : (r : Rules) (d : ℕ) (b more rest : List ℕ) → IsElement r d b → 0 ∷ more ≡ b ++ rest → ⊥
no_zero_first r d b more rest (primitive c t s w ht hs eb m) e =
    let z = zero_first (0 ∷ more) c t (s ++ (w ++ rest)) refl (e ∙ definite_part c false t s w b rest eb) in
    (m z.0).0 z.1
no_zero_first r d b more rest (constructed c t s w ht hs eb m a) e =
    constructed_first (0 ∷ more) c t (s ++ (w ++ rest)) refl (e ∙ definite_part c true t s w b rest eb)
no_zero_first r d b more rest (indefinite c t w ht er eb m a) e =
    constructed_first (0 ∷ more) c t (128 ∷ (w ++ (end_marker ++ rest))) refl (e ∙ open_part c true t w b rest eb)

-- to depth 0 there is none
no_depth : (r : Rules) (d : ℕ) (b : List ℕ) → d ≡ 0 → IsElement r d b → ⊥
no_depth r d b z (primitive c t s w ht hs eb m) = absurd (omega (arith, z))
no_depth r d b z (constructed c t s w ht hs eb m a) = absurd (omega (arith, z))
no_depth r d b z (indefinite c t w ht er eb m a) = absurd (omega (arith, z))

pub none_at_depth : (r : Rules) (d : ℕ) (i : List ℕ) → d ≡ 0 → Finds (BeginsWithElement r d i) None
none_at_depth r d i z = record { found = tt; only = λ rest e. no_depth r d e.0 z e.2 }

-- what follows a header

abbrev FollowsHeader : Rules → ℕ → LeadingHeader → List ℕ → Type 0
FollowsHeader r d v rest = Follows r d v.class v.constructed v.number v.length v.rest rest

one_less : (r : Rules) (d : ℕ) (w : List ℕ) → AreElements r d w → AreElements r (suc d - 1) w
one_less r d w a = let e : d ≡ suc d - 1 = omega arith in subst (λ k. AreElements r k w) e a

one_more_level : (r : Rules) (d : ℕ) (w : List ℕ) → AreElements r (suc d - 1) w → AreElements r d w
one_more_level r d w a = let e : suc d - 1 ≡ d = omega arith in subst (λ k. AreElements r k w) e a

-- an element has a header
header_of : (r : Rules) (d : ℕ) (i rest : List ℕ) → BeginsWithElement r d i rest
    → (v : LeadingHeader) × SpellsHeaderBy r i v × FollowsHeader r d v rest
header_of r d i rest (b, e, primitive c t s w ht hs eb m) =
    (_, spells_definite r i c false t s (w ++ rest) (length w) ht hs (e ∙ definite_part c false t s w b rest eb), (w, refl, refl, m))
header_of r d i rest (b, e, constructed {d = k} c t s w ht hs eb m a) =
    (_, spells_definite r i c true t s (w ++ rest) (length w) ht hs (e ∙ definite_part c true t s w b rest eb), (m, (w, refl, refl, one_less r k w a)))
header_of r d i rest (b, e, indefinite {d = k} c t w ht er eb m a) =
    let v : LeadingHeader = record { class = c; constructed = true; number = t; length = Indefinite; rest = w ++ (end_marker ++ rest) } in
    (v, subst (λ q. SpellsHeaderBy q i v) (sym er) (spells_open i c t (w ++ (end_marker ++ rest)) ht (e ∙ open_part c true t w b rest eb)), (m, (w, refl, one_less r k w a)))

-- and a header and what follows it are one
pub definite_octets : (i s w rest behind b : List ℕ) (c : Class) (p : Bool) (t : ℕ) → i ≡ identifier c p t ++ (s ++ behind) → behind ≡ w ++ rest → b ≡ identifier c p t ++ s ++ w → i ≡ b ++ rest
definite_octets i s w rest behind b c p t e ew eb = e ∙ ap (λ l. identifier c p t ++ (s ++ l)) ew ∙ sym (definite_part c p t s w b rest eb)

element_of : (r : Rules) (d : ℕ) (i rest : List ℕ) (v : LeadingHeader) (p : Bool) (l : Length) → v.constructed ≡ p → v.length ≡ l → SpellsHeaderBy r i v
    → Follows r (suc d) v.class p v.number l v.rest rest → BeginsWithElement r (suc d) i rest
element_of r d i rest v false (Definite n) ep el h (w, en, ew, m) =
    let s = definite_spelled r i v n h el in
    let b = identifier v.class false v.number ++ s.0 ++ w in
    let parts = subst (λ q. i ≡ identifier v.class q v.number ++ (s.0 ++ v.rest)) ep s.3 in
    (b, definite_octets i s.0 w rest v.rest b v.class false v.number parts ew refl, primitive v.class v.number s.0 w s.1 (subst (λ k. SpellsLengthBy r s.0 k) (sym en) s.2) refl m)
element_of r d i rest v false Indefinite ep el h f = absurd f
element_of r d i rest v true (Definite n) ep el h (m, (w, en, ew, a)) =
    let s = definite_spelled r i v n h el in
    let b = identifier v.class true v.number ++ s.0 ++ w in
    let parts = subst (λ q. i ≡ identifier v.class q v.number ++ (s.0 ++ v.rest)) ep s.3 in
    (b, definite_octets i s.0 w rest v.rest b v.class true v.number parts ew refl, constructed v.class v.number s.0 w s.1 (subst (λ k. SpellsLengthBy r s.0 k) (sym en) s.2) refl m (one_more_level r d w a))
element_of r d i rest v true Indefinite ep el h (m, (w, ew, a)) =
    let s = open_spelled r i v h el in
    let b = identifier v.class true v.number ++ 128 ∷ w ++ end_marker in (
      b,
      s.2 ∙ ap (λ l. identifier v.class true v.number ++ 128 ∷ l) ew ∙ sym (open_part v.class true v.number w b rest refl),
      indefinite v.class v.number w s.1 s.0 refl m (one_more_level r d w a),
    )

begins_with : (r : Rules) (d : ℕ) (i rest : List ℕ) (v : LeadingHeader) → 1 ≤ d → SpellsHeaderBy r i v → FollowsHeader r d v rest → BeginsWithElement r d i rest
begins_with r zero i rest v deep h f = absurd (omega (arith, deep))
begins_with r (suc d) i rest v deep h f = element_of r d i rest v v.constructed v.length refl refl h f

-- the same said of what is found
finds : (P Q : List ℕ → Type 0) (result : Option (Bor (List ℕ))) → ((rest : List ℕ) → P rest → Q rest) → ((rest : List ℕ) → Q rest → P rest) → Finds P result → Finds Q result
finds P Q (Some x) f g h = record { found = f x.now h.found; only = λ rest q. h.only rest (g rest q) }
finds P Q None f g h = record { found = tt; only = λ rest q. h.only rest (g rest q) }

-- behind the only header that i begins with
pub header_finds : (r : Rules) (d : ℕ) (i : List ℕ) (u : LeadingHeader) (result : Option (Bor (List ℕ))) → 1 ≤ d → SpellsHeaderBy r i u → ((v : LeadingHeader) → SpellsHeaderBy r i v → u ≡ v)
    → Finds (FollowsHeader r d u) result → Finds (BeginsWithElement r d i) result
header_finds r d i u result deep s same f = finds _ _ result (λ rest h. begins_with r d i rest u deep s h) (λ rest e. back rest (header_of r d i rest e)) f
  where
    back : (rest : List ℕ) → (v : LeadingHeader) × SpellsHeaderBy r i v × FollowsHeader r d v rest → FollowsHeader r d u rest
    back rest (v, h, follows) = subst (λ z. FollowsHeader r d z rest) (sym (same v h)) follows

-- behind the header that was read
pub read_finds : (r : Rules) (d : ℕ) (i : List ℕ) (x : Bor (List ℕ) × Header) (p : Bool) (result : Option (Bor (List ℕ))) → 1 ≤ d → AnswersHeader r i (Ok x) → is_constructed x.1 ≡ p
    → Finds (Follows r d (class_of x.1) p (number_of x.1) (length_of x.1) x.0.now) result → Finds (BeginsWithElement r d i) result
read_finds r d i x p result deep a ep f =
    header_finds r d i (leading_header x) result deep (header_read r i x a) (λ v s. header_only r i x v a s)
    (subst (λ q. Finds (Follows r d (class_of x.1) q (number_of x.1) (length_of x.1) x.0.now) result) (sym ep) f)

pub none_read : (r : Rules) (d : ℕ) (i : List ℕ) (e : Refused BerError) → AnswersHeader r i (Err e) → Finds (BeginsWithElement r d i) None
none_read r d i e a = record { found = tt; only = λ rest b. let h = header_of r d i rest b in header_refused r i e h.0 a h.1 }

pub constructed_follow : (r : Rules) (d : ℕ) (c : Class) (t : ℕ) (l : Length) (i : List ℕ) (result : Option (Bor (List ℕ))) → MayBeConstructed r c t
    → Finds (BeginsWithElements r (d - 1) l i) result → Finds (Follows r d c true t l i) result
constructed_follow r d c t l i result m f = finds _ _ result (λ rest a. (m, a)) (λ rest a. a.1) f

pub none_constructed : (r : Rules) (d : ℕ) (c : Class) (t : ℕ) (l : Length) (i : List ℕ) → (MayBeConstructed r c t → ⊥) → Finds (Follows r d c true t l i) None
none_constructed r d c t l i never = record { found = tt; only = λ rest a. never a.0 }

-- what follows the content is shorter than the input
pub shorter : (r : Rules) (i : List ℕ) (x : Bor (List ℕ) × Header) (result : Option (Bor (List ℕ))) → AnswersHeader r i (Ok x) → IfSome result (λ y. length y.now ≤ length x.0.now) → IfSome result (λ y. length y.now < length i)
shorter r i x (Some y) a h = omega (arith, h, header_shorter r i (leading_header x) (header_read r i x a))
shorter r i x None a h = tt

-- the first octets of an input

pub part_found : (P : List ℕ → Type 0) (n : ℕ) (i w : List ℕ) (rest : Bor (List ℕ)) → length w ≡ n → i ≡ w ++ rest.now → P w → Finds (BeginsWithPart P n i) (Some rest)
part_found P n i w rest en e h = record { found = (w, en, e, h); only = λ rest' p. (fronts_same w p.0 rest.now rest' (en ∙ sym p.1) (sym e ∙ p.2)).1 }

pub no_part : (P : List ℕ → Type 0) (n : ℕ) (i w rest : List ℕ) → length w ≡ n → i ≡ w ++ rest → (P w → ⊥) → Finds (BeginsWithPart P n i) None
no_part P n i w rest en e never = record { found = tt; only = λ rest' p. never (subst P (sym (fronts_same w p.0 rest rest' (en ∙ sym p.1) (sym e ∙ p.2)).0) p.3) }

pub split : (n : ℕ) (i w rest : List ℕ) → w ≡ take n i → rest ≡ drop n i → i ≡ w ++ rest
split n i w rest front back = sym (ap (λ v. v ++ rest) front ∙ ap (λ v. take n i ++ v) back ∙ take-append-drop n i)

-- the content of a primitive element

abbrev pub IsLengthOf : ℕ → List ℕ → List ℕ → List ℕ → Type 0
IsLengthOf n i w rest = (length w ≡ n) × (w ≡ take n i) × (rest ≡ drop n i)

pub content_found : (r : Rules) (c k : Class) (t u n : ℕ) (l : Length) (i w : List ℕ) (rest : Bor (List ℕ)) → c ≡ k → t ≡ u → Definite n ≡ l → IsLengthOf n i w rest.now → MayHaveContent r c t w
    → Finds (BeginsWithContent r k u l i) (Some rest)
content_found r c k t u n l i w rest ec et el (size, front, back) m =
    let is = subst (λ z. MayHaveContent r z u w) ec (subst (λ z. MayHaveContent r c z w) et m) in
    subst (λ z. Finds (BeginsWithContent r k u z i) (Some rest)) el (part_found (MayHaveContent r k u) n i w rest size (split n i w rest.now front back) is)

pub no_content : (r : Rules) (c k : Class) (t u n : ℕ) (l : Length) (i w rest : List ℕ) → c ≡ k → t ≡ u → Definite n ≡ l → IsLengthOf n i w rest → ¬ MayHaveContent r c t w
    → Finds (BeginsWithContent r k u l i) None
no_content r c k t u n l i w rest ec et el (size, front, back) never =
    let isnt = subst (λ z. ¬ MayHaveContent r z u w) ec (subst (λ z. ¬ MayHaveContent r c z w) et never) in
    subst (λ z. Finds (BeginsWithContent r k u z i) None) el (no_part (MayHaveContent r k u) n i w rest size (split n i w rest front back) isnt)

-- elements, one after another

pub left : (r : Rules) (d : ℕ) (i : List ℕ) (x : Bor (List ℕ)) → 0 < length i → Finds (BeginsWithElement r d i) (Some x) → AreElements r d i → AreElements r d x.now
left r d i x some f none = absurd (omega (arith, some))
left r d i x some f (one_more b rest e is more) = subst (λ l. AreElements r d l) (sym (f.only rest (b, e, is))) more

pub before : (r : Rules) (d : ℕ) (i : List ℕ) (x : Bor (List ℕ)) → Finds (BeginsWithElement r d i) (Some x) → AreElements r d x.now → AreElements r d i
before r d i x f a = one_more f.found.0 x.now f.found.1 f.found.2 a

pub not_elements : (r : Rules) (d : ℕ) (i : List ℕ) → 0 < length i → Finds (BeginsWithElement r d i) None → AreElements r d i → ⊥
not_elements r d i some f none = absurd (omega (arith, some))
not_elements r d i some f (one_more b rest e is more) = f.only rest (b, e, is)

-- and before an end marker

abbrev pub IsNoMarker : List ℕ → Type 0
IsNoMarker i = (rest : List ℕ) → i ≡ end_marker ++ rest → ⊥

pub open_left : (r : Rules) (d : ℕ) (i rest : List ℕ) (x : Bor (List ℕ)) → IsNoMarker i → Finds (BeginsWithElement r d i) (Some x) → BeginsWithOpenContent r d i rest → BeginsWithOpenContent r d x.now rest
open_left r d i rest x plain f (w, e, none) = absurd (plain rest e)
open_left r d i rest x plain f (w, e, one_more b after eb is more) =
    (after, f.only (after ++ (end_marker ++ rest)) (b, e ∙ ap (λ l. l ++ (end_marker ++ rest)) eb ∙ append_assoc b after (end_marker ++ rest), is), more)

pub open_before : (r : Rules) (d : ℕ) (i rest : List ℕ) (x : Bor (List ℕ)) → Finds (BeginsWithElement r d i) (Some x) → BeginsWithOpenContent r d x.now rest → BeginsWithOpenContent r d i rest
open_before r d i rest x f (w, e, a) =
    let (b, eb, is) = f.found in
    (b ++ w, eb ∙ ap (λ l. b ++ l) e ∙ sym (append_assoc b w (end_marker ++ rest)), one_more b w refl is a)

pub open_none : (r : Rules) (d : ℕ) (i rest : List ℕ) → IsNoMarker i → Finds (BeginsWithElement r d i) None → BeginsWithOpenContent r d i rest → ⊥
open_none r d i rest plain f (w, e, none) = plain rest e
open_none r d i rest plain f (w, e, one_more b after eb is more) = f.only (after ++ (end_marker ++ rest)) (b, e ∙ ap (λ l. l ++ (end_marker ++ rest)) eb ∙ append_assoc b after (end_marker ++ rest), is)

pub open_end : (r : Rules) (d : ℕ) (i y rest : List ℕ) → i ≡ end_marker ++ y → BeginsWithOpenContent r d i rest → y ≡ rest
open_end r d i y rest z (w, e, none) = let both = sym z ∙ e in cc
open_end r d i y rest z (w, e, one_more b after eb is more) =
    absurd (no_zero_first r d b (0 ∷ y) (after ++ (end_marker ++ rest)) is (sym z ∙ e ∙ ap (λ l. l ++ (end_marker ++ rest)) eb ∙ append_assoc b after (end_marker ++ rest)))

-- one element and nothing else

pub whole_element : (r : Rules) (d : ℕ) (i : List ℕ) (x : Bor (List ℕ)) → Finds (BeginsWithElement r d i) (Some x) → length x.now ≡ 0 → IsElement r d i
whole_element r d i x f e = let (b, eb, is) = f.found in subst (λ l. IsElement r d l) (sym (eb ∙ ap (λ l. b ++ l) (nil_from_length x.now e) ∙ append-nil b)) is

pub nothing_left : (r : Rules) (d : ℕ) (i : List ℕ) (x : Bor (List ℕ)) → Finds (BeginsWithElement r d i) (Some x) → IsElement r d i → length x.now ≡ 0
nothing_left r d i x f is = ap length (f.only [] (i, sym (append-nil i), is))

pub no_element : (r : Rules) (d : ℕ) (i : List ℕ) → Finds (BeginsWithElement r d i) None → IsElement r d i → ⊥
no_element r d i f is = f.only [] (i, sym (append-nil i), is)
