-- An element that is read is one.
use Rattle.std.proofs.Common.{◌≡◌, ℕ, ◌+◌, ◌-◌, ◌≤◌, ◌⊎◌, Bool, true, false, List, [], ◌∷◌, ◌++◌, length, Option, Some, None, Ok, refl, sym, ap, subst, ◌∙◌, arith, length-append, inl, inr, ⊎_elim}
use Rattle.std.specs.Borrow.{Bor}
use Rattle.std.specs.Prelude.{MatchOption, IfSome, IsSome, unwrap_or}
use Rattle.der_base.specs.declared.header.Class.{Class}
use Rattle.der_base.specs.declared.header.Class.TheVariants.{Universal}
use Rattle.der_base.specs.declared.header.Header.{Header}
use Rattle.der_base.specs.Header.{is_constructed, number_of, length_of}
use Rattle.der_base.specs.Headers.{leading_header}
use Rattle.der_base.specs.Octets.{identifier}
use Rattle.der_base.specs.declared.rules.Rules.{Rules}
use Rattle.der_base.specs.declared.rules.Rules.TheVariants.{Ber, Der}
use Rattle.der_elements.specs.Check.Elements.{MayHaveContent}
use Rattle.der_base.specs.Rules.{AnswersHeader}
use Rattle.der_elements.proofs.CheckLaws.HeadersBy.{header_read}
use Rattle.der_contents.specs.ContentRules.{Rule, AllHold, IsContent, IsFirstBroken, bit_string_rules}
use Rattle.der_contents.specs.declared.content_error.ContentError.{ContentError}
use Rattle.der_elements.specs.declared.element.Element.{Element}
use Rattle.der_elements.specs.declared.walk.Walk.{Walk}
use Rattle.der_elements.specs.Visits.{Extras, IsHeaderBy, HoldsElement, IsFirstOf, primitive, broken, visited}
use Rattle.der_elements.specs.Ends.{end_of, IsWithin}
use Rattle.der_elements.specs.Walked.{visited_of}
use Rattle.der_elements.specs.Reading.{StartsWith, FindsContent, IsChecked, Holds, IsHeld, IsRead, whole, string, list, definite_of, extras_of, octets_or_none, OctetsHere, ReadsHere}
use Rattle.der_elements.proofs.Headers.{Parts, header_parts, header_two, raw_tag_read}

-- what is visited, where only the header matters
visited_plain : (e : Element) (h : List ℕ) (p : Bool) (n : Option ℕ) → e.header ≡ length h → e.length ≡ n → e.constructed ≡ p → e.holds ≡ None → e.breaks_its_type ≡ false
    → visited_of e ≡ visited e.offset e.depth e.class p e.number h n
visited_plain e h p n eh el ep ed eo = cc

visited_broken : (e : Element) (h : List ℕ) (n : Option ℕ) → e.header ≡ length h → e.length ≡ n → e.class ≡ Universal → e.constructed ≡ false → e.holds ≡ None → e.breaks_its_type ≡ true
    → visited_of e ≡ record (visited e.offset e.depth Universal false e.number h n) { breaks_its_type = true }
visited_broken e h n eh el ec ep ed eo = cc

-- the header of the element
parts_of : (r : Rules) (i : List ℕ) (y : Bor (List ℕ) × Header) (o at k j : ℕ) (e : Element) → AnswersHeader r i (Ok y) → StartsWith y.1 o at k j e → Parts r i e.class e.constructed e.number e.length y.0.now
parts_of r i y o at k j e a s =
    let g = header_parts r i (leading_header y) (header_read r i y a) in
    let g1 = subst (λ c. Parts r i c (is_constructed y.1) (number_of y.1) (definite_of (length_of y.1)) y.0.now) (sym s.class) g in
    let g2 = subst (λ p. Parts r i e.class p (number_of y.1) (definite_of (length_of y.1)) y.0.now) (sym s.constructed) g1 in
    let g3 = subst (λ t. Parts r i e.class e.constructed t (definite_of (length_of y.1)) y.0.now) (sym s.number) g2 in
    subst (λ n. Parts r i e.class e.constructed e.number n y.0.now) (sym s.length) g3

header_length : (i h rest : List ℕ) (o : ℕ) → o ≡ length i - length rest → i ≡ h ++ rest → o ≡ length h
header_length i h rest o eo e = omega (arith, eo, ap length e, length-append h rest)

no_length : (r : Rules) (c : Class) (p : Bool) (t : ℕ) (h : List ℕ) → p ≡ false → IsHeaderBy r c p t None h → ⊥
no_length r c p t h ep is = absurd (let q = is.2 in cc)

-- a primitive element, whose content is in the input
pub record Leaf (r : Rules) (i behind : List ℕ) (e : Element) : Type 0 where
  pub octets : List ℕ
  pub content : Bor (List ℕ)
  pub rest : List ℕ
  pub split : i ≡ octets ++ (content.now ++ rest)
  pub behind_is : behind ≡ content.now ++ rest
  pub is : IsHeaderBy r e.class false e.number (Some (length content.now)) octets
  pub header_is : e.header ≡ length octets
  pub length_is : e.length ≡ Some (length content.now)
  pub content_is : e.content ≡ Some content

pub leaf_of : (r : Rules) (i : List ℕ) (y : Bor (List ℕ) × Header) (at k j : ℕ) (e : Element) → AnswersHeader r i (Ok y) → StartsWith y.1 (length i - length y.0.now) at k j e → FindsContent e y.0.now e.content → e.constructed ≡ false
    → Leaf r i y.0.now e
leaf_of r i y at k j e a s f ep = of e.content refl f
  where
    g : Parts r i e.class e.constructed e.number e.length y.0.now
    g = parts_of r i y _ at k j e a s

    of : (c : Option (Bor (List ℕ))) → e.content ≡ c → FindsContent e y.0.now c → Leaf r i y.0.now e
    of None q (inl t) = absurd (cc)
    of None q (inr n) = absurd (no_length r e.class e.constructed e.number g.octets ep (subst (λ l. IsHeaderBy r e.class e.constructed e.number l g.octets) n g.is))
    of (Some w) q (rest, split, len) = record {
      octets = g.octets;
      content = w;
      rest = rest;
      split = g.split ∙ ap (λ l. g.octets ++ l) split;
      behind_is = split;
      is = subst (λ p. IsHeaderBy r e.class p e.number (Some (length w.now)) g.octets) ep (subst (λ l. IsHeaderBy r e.class e.constructed e.number l g.octets) len g.is);
      header_is = header_length i g.octets y.0.now e.header s.header g.split;
      length_is = len;
      content_is = q;
    }

-- the content octets, where none stand for a content that isn't there
pub or_none : (o : Option (Bor (List ℕ))) (d : Bor (List ℕ)) → d.now ≡ [] → (unwrap_or o d).now ≡ octets_or_none o
or_none None d e = e
or_none (Some w) d e = refl

-- where a rule is broken, not all hold
pub not_all_hold : (rs : List Rule) (e : ContentError) → IsFirstBroken rs e → AllHold rs → ⊥
not_all_hold [] e h k = absurd h
not_all_hold (r ∷ rs) e (inl h) k = h.0 k.0
not_all_hold (r ∷ rs) e (inr h) k = not_all_hold rs e h.1 k.1

bool_cases : (b : Bool) → (b ≡ true) ⊎ (b ≡ false)
bool_cases true = inl refl
bool_cases false = inr refl

-- a BIT STRING without unused bits
all_bits : (r : Rules) (v : List ℕ) → AllHold (bit_string_rules r (0 ∷ v))
all_bits Ber v = (omega arith, (λ e. refl, tt))
all_bits Der [] = (omega arith, (λ e. refl, (refl, tt)))
all_bits Der (b ∷ v) = (omega arith, (λ e. refl, ((omega arith, omega arith), tt)))

-- what holds an element doesn't break its type
holds_content : (s r : Rules) (t d : ℕ) (w u v : List ℕ) → HoldsElement s d t w u v → IsContent r t w
holds_content s r t d w u v h = ⊎_elim
    (λ z. subst (λ n. IsContent r n w) (sym z.0) tt)
    (λ z. subst (λ n. IsContent r n w) (sym z.0) (subst (λ l. IsContent r 3 l) (sym (h.parts ∙ ap (λ l. l ++ v) z.1)) (all_bits r v)))
    h.front

-- what a string holds, by its content
holds_in : (s : Rules) (e : Element) (w : Bor (List ℕ)) → e.content ≡ Some w → Holds s e → (u v : List ℕ) × HoldsElement s (100 - e.depth) e.number w.now u v
holds_in s e w q h = subst (λ c. MatchOption c ⊥ (λ w. (u v : List ℕ) × HoldsElement s (100 - e.depth) e.number w.now u v)) q h.2

in_holds : (s : Rules) (e : Element) (w : Bor (List ℕ)) → e.content ≡ Some w → e.constructed ≡ false → e.class ≡ Universal → (u v : List ℕ) → HoldsElement s (100 - e.depth) e.number w.now u v → Holds s e
in_holds s e w q ep ec u v h = (ep, ec, subst (λ c. MatchOption c ⊥ (λ w. (u v : List ℕ) × HoldsElement s (100 - e.depth) e.number w.now u v)) (sym q) (u, v, h))

-- by which rules, if by any
by_rules : (o : Option Rules) → (o ≡ None) ⊎ ((s : Rules) × (o ≡ Some s))
by_rules None = inl refl
by_rules (Some s) = inr (s, refl)

held_none : (enters : Bool) (e : Element) → e.holds ≡ None → IsHeld enters e e.holds → enters ≡ true → (s : Rules) → Holds s e → ⊥
held_none enters e q h = subst (λ o. IsHeld enters e o) q h

held_some : (enters : Bool) (e : Element) (s : Rules) → e.holds ≡ Some s → IsHeld enters e e.holds → (enters ≡ true) × Holds s e × (s ≡ Ber → Holds Der e → ⊥)
held_some enters e s q h = subst (λ o. IsHeld enters e o) q h

pub reads : (x : Extras) (r : Rules) (i : List ℕ) (y : Bor (List ℕ) × Header) (at k j : ℕ) (e : Element) → AnswersHeader r i (Ok y) → StartsWith y.1 (length i - length y.0.now) at k j e
    → FindsContent e y.0.now e.content → IsChecked x.keeps_values r e e.breaks_its_type → IsHeld x.enters_strings e e.holds → IsRead x r (100 - e.depth) i e
reads x r i y at k j e a s f (inl (ep, may, eo)) held =
    let g = parts_of r i y _ at k j e a s in
    let some : (m : Rules) → e.holds ≡ Some m → ⊥ = λ m t. let q = (held_some x.enters_strings e m t held).1.0 in absurd (cc) in
    let no : e.holds ≡ None = ⊎_elim (λ n. n) (λ t. absurd (some t.0 t.1)) (by_rules e.holds) in
    list g.octets y.0.now g.split (header_length i g.octets y.0.now e.header s.header g.split) ep no eo (subst (λ p. IsHeaderBy r e.class p e.number e.length g.octets) ep g.is) may
reads x r i y at k j e a s f (inr (inl (ep, has, eo))) held = ⊎_elim plain (λ t. entered t.0 t.1) (by_rules e.holds)
  where
    g : Leaf r i y.0.now e
    g = leaf_of r i y at k j e a s f ep

    content : MayHaveContent r e.class e.number g.content.now
    content = subst (λ l. MayHaveContent r e.class e.number l) (ap octets_or_none g.content_is) has

    entered : (m : Rules) → e.holds ≡ Some m → IsRead x r (100 - e.depth) i e
    entered m t =
        let h = held_some x.enters_strings e m t held in
        let ec : e.class ≡ Universal = h.1.1 in
        let (u, v, in_it) = holds_in m e g.content g.content_is h.1 in
        let first : IsFirstOf m (100 - e.depth) e.number g.content.now = λ q u v k. h.2 q (in_holds Der e g.content g.content_is ep ec u v k) in
        string m g.octets g.content.now g.rest u v g.split g.header_is g.length_is ep t eo ec (subst (λ q. IsHeaderBy r q false e.number (Some (length g.content.now)) g.octets) ec g.is) (content ec).1 h.0 in_it first

    plain : e.holds ≡ None → IsRead x r (100 - e.depth) i e
    plain t =
        whole g.octets g.content.now g.rest g.split g.header_is g.length_is ep t
        (primitive e.class e.number g.octets g.content.now g.is refl content (λ en ec m u v h. held_none x.enters_strings e t held en m (in_holds m e g.content g.content_is ep ec u v h))
        (ap (λ v. v ∷ []) (visited_plain e g.octets false (Some (length g.content.now)) g.header_is g.length_is ep t eo)))
reads x r i y at k j e a s f (inr (inr (ep, eo, kt, er, ec, it, never))) held =
    whole g.octets g.content.now g.rest g.split g.header_is g.length_is ep no_holds
    (broken e.number g.octets g.content.now (subst (λ c. IsHeaderBy r c false e.number (Some (length g.content.now)) g.octets) ec g.is) refl kt er it
    (λ has. never (subst (λ l. IsContent r e.number l) (sym (ap octets_or_none g.content_is)) has))
    (ap (λ v. v ∷ []) (visited_broken e g.octets (Some (length g.content.now)) g.header_is g.length_is ec ep no_holds eo)))
  where
    g : Leaf r i y.0.now e
    g = leaf_of r i y at k j e a s f ep

    strange : (m : Rules) → e.holds ≡ Some m → ⊥
    strange m t =
        let (u, v, in_it) = holds_in m e g.content g.content_is (held_some x.enters_strings e m t held).1 in
        never (subst (λ l. IsContent r e.number l) (sym (ap octets_or_none g.content_is)) (holds_content m r e.number (100 - e.depth) g.content.now u v in_it))

    no_holds : e.holds ≡ None
    no_holds = ⊎_elim (λ n. n) (λ t. absurd (strange t.0 t.1)) (by_rules e.holds)

-- the octets of the element
octets_here : (r : Rules) (i : List ℕ) (y : Bor (List ℕ) × Header) (at k j : ℕ) (e : Element) → AnswersHeader r i (Ok y) → StartsWith y.1 (length i - length y.0.now) at k j e → FindsContent e y.0.now e.content → OctetsHere i e
octets_here r i y at k j e a s f = record { identifier = named; content = contents e.content f; primitive = λ ep. subst (λ c. IsSome c) (sym (leaf_of r i y at k j e a s f ep).content_is) refl }
  where
    g : Parts r i e.class e.constructed e.number e.length y.0.now
    g = parts_of r i y _ at k j e a s

    named : e.identifier.now ≡ identifier e.class e.constructed e.number
    named =
        s.identifier _ (raw_tag_read r i y a) ∙ ap (λ c. identifier c (is_constructed y.1) (number_of y.1)) (sym s.class) ∙ ap (λ p. identifier e.class p (number_of y.1)) (sym s.constructed)
        ∙ ap (λ t. identifier e.class e.constructed t) (sym s.number)

    contents : (c : Option (Bor (List ℕ))) → FindsContent e y.0.now c → IfSome c (λ w. (h rest : List ℕ) × (i ≡ h ++ (w.now ++ rest)) × (e.header ≡ length h) × (e.length ≡ Some (length w.now)))
    contents None f = tt
    contents (Some w) (rest, split, len) = (g.octets, rest, g.split ∙ ap (λ l. g.octets ++ l) split, header_length i g.octets y.0.now e.header s.header g.split, len)

-- another content and other marks leave the header
pub starts_again : (h : Header) (o at k j : ℕ) (e : Element) (c : Option (Bor (List ℕ))) (held : Option Rules) (other : Bool) → StartsWith h o at k j e → StartsWith h o at k j (record e { content = c; holds = held; breaks_its_type = other })
starts_again h o at k j e c held other s = record {
  class = s.class;
  constructed = s.constructed;
  number = s.number;
  length = s.length;
  header = s.header;
  offset = s.offset;
  depth = s.depth;
  index = s.index;
  identifier = s.identifier;
}

pub reads_here : (w : Walk) (i : List ℕ) (y : Bor (List ℕ) × Header) (e : Element) → AnswersHeader w.content.rules i (Ok y) → StartsWith y.1 (length i - length y.0.now) w.at (length w.opened.items) w.content.visited e
    → FindsContent e y.0.now e.content → IfSome e.length (λ n. IsWithin (e.offset + e.header + n) (end_of w)) → IsChecked w.keeps_values w.content.rules e e.breaks_its_type
    → IsHeld w.enters_strings e e.holds → e.depth ≤ 100 → ReadsHere w i e
reads_here w i y e a s f room checks held shallow = record {
  offset = s.offset;
  depth = s.depth;
  shallow = shallow;
  fits = omega (arith, s.header);
  some = (let h = header_two w.content.rules i (leading_header y) (header_read w.content.rules i y a) in omega (arith, s.header, h));
  room = room;
  index = s.index;
  read = reads (extras_of w) w.content.rules i y w.at (length w.opened.items) w.content.visited e a s f checks held;
  octets = octets_here w.content.rules i y w.at (length w.opened.items) w.content.visited e a s f;
}
