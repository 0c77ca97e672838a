-- Nodes show the elements that octets are, in their places.
use Rattle.std.proofs.Common.{◌≡◌, ℕ, ◌+◌, Bool, true, false, List, [], ◌∷◌, ◌++◌, length, refl, sym, ap, subst, ◌∙◌, arith, append_assoc, append-nil, length-append, if◌then◌else◌}
use Rattle.der_base.specs.declared.header.Class.{Class}
use Rattle.der_base.specs.declared.rules.Rules.{Rules}
use Rattle.der_base.specs.Octets.{identifier}
use Rattle.der_base.specs.Spelling.{end_marker}
use Rattle.der_elements.specs.declared.check.element.Element.{Element}
use Rattle.der_elements.specs.Check.Elements.{AreElements, IsElement, none, one_more, primitive, constructed, indefinite}
use Rattle.der_elements.specs.Check.Listing.{listed, listed_one}
use Rattle.der_parser.specs.Viewing.Laws.{ElementShows, ElementsShow, HasParts, IsShownBy, AreShownBy}
use Rattle.der_parser.specs.Viewing.Views.{View, marker_of, trees}
use Rattle.der_parser.proofs.ViewLaws.Middles.{between_middle, trees_first}

-- the input around the content of an element
around : (i f h w m z : List ℕ) → i ≡ f ++ ((h ++ (w ++ m)) ++ z) → i ≡ (f ++ h) ++ (w ++ (m ++ z))
around i f h w m z e =
    e ∙ ap (λ j. f ++ j) (append_assoc h (w ++ m) z) ∙ sym (append_assoc f h ((w ++ m) ++ z)) ∙ ap (λ j. (f ++ h) ++ j) (append_assoc w m z)

parts_of : (i f h w m z : List ℕ) (v : View) (c : Class) (p : Bool) (t : ℕ) → v.input ≡ i → v.element.class ≡ c → v.element.constructed ≡ p → v.element.number ≡ t → v.element.header ≡ length f
    → v.element.content ≡ length f + length h → v.element.end ≡ v.element.content + length w → marker_of v ≡ m → length m ≡ (if v.element.definite then 0 else 2) → i ≡ f ++ ((h ++ (w ++ m)) ++ z)
    → HasParts v c p t h w m
parts_of i f h w m z v c p t ei same_class same_form same_number eh ec ee em el e =
    let b = h ++ (w ++ m) in
    let behind_header : i ≡ f ++ (h ++ ((w ++ m) ++ z)) = e ∙ ap (λ j. f ++ j) (append_assoc h (w ++ m) z) in
    let place : v.element.content ≡ length (f ++ h) = omega (arith, ec, length-append f h) in
    let size : length b ≡ length h + (length w + length m) = length-append h (w ++ m) ∙ ap (λ n. length h + n) (length-append w m) in
    let end : v.element.end + (if v.element.definite then 0 else 2) ≡ v.element.header + length b = omega (arith, ee, ec, eh, size, el) in
    record {
      class = same_class;
      constructed = same_form;
      number = same_number;
      octets = between_middle v.input f b z v.element.header (v.element.end + (if v.element.definite then 0 else 2)) (ei ∙ e) eh end;
      header = between_middle v.input f h ((w ++ m) ++ z) v.element.header v.element.content (ei ∙ behind_header) eh (omega (arith, ec, eh));
      content = between_middle v.input (f ++ h) w (m ++ z) v.element.content v.element.end (ei ∙ around i f h w m z e) place ee;
      marker = em;
    }

-- an element with this header, and those inside it
abbrev view_at : List ℕ → Class → Bool → Bool → ℕ → ℕ → ℕ → ℕ → List Element → View
view_at i c p f t a o n inside = record {
  input = i;
  element = record { class = c; constructed = p; definite = f; number = t; header = a; content = o; end = o + n; inside = length inside };
  inside = inside;
}

mutual
  one_shown : {r : Rules} {d : ℕ} {b : List ℕ} (i f z : List ℕ) (a : ℕ) (is : IsElement r d b) (behind : List Element) → a ≡ length f → i ≡ f ++ (b ++ z)
      → (v : View) × (trees i (listed_one is a ++ behind) ≡ v ∷ trees i behind) × IsShownBy is v
  one_shown i f z a (primitive c t s w ht hs e m) behind q k =
      let h = identifier c false t ++ s in
      let v = view_at i c false true t a (a + length h) (length w) [] in
      let parts : i ≡ f ++ ((h ++ (w ++ [])) ++ z) = k ∙ ap (λ j. f ++ (j ++ z)) (e ∙ ap (λ j. h ++ j) (sym (append-nil w))) in
      (v, trees_first i v.element [] behind refl, (parts_of i f h w [] z v c false t refl refl refl refl q (ap (λ n. n + length h) q) refl refl refl parts, refl))
  one_shown i f z a (constructed c t s w ht hs e m are) behind q k =
      let h = identifier c true t ++ s in
      let o = a + length h in
      let v = view_at i c true true t a o (length w) (listed are o) in
      let parts : i ≡ f ++ ((h ++ (w ++ [])) ++ z) = k ∙ ap (λ j. f ++ (j ++ z)) (e ∙ ap (λ j. h ++ j) (sym (append-nil w))) in
      let place : o ≡ length (f ++ h) = omega (arith, length-append f h, q) in (
        v,
        trees_first i v.element (listed are o) behind refl,
        (
          parts_of i f h w [] z v c true t refl refl refl refl q (ap (λ n. n + length h) q) refl refl refl parts,
          items_shown i (f ++ h) ([] ++ z) o are place (around i f h w [] z parts),
        ),
      )
  one_shown i f z a (indefinite c t w ht er e m are) behind q k =
      let n = identifier c true t in
      let h = n ++ 128 ∷ [] in
      let o = a + length n + 1 in
      let v = view_at i c true false t a o (length w) (listed are o) in
      let octets : n ++ 128 ∷ w ++ end_marker ≡ h ++ (w ++ end_marker) = append_assoc n (128 ∷ w) end_marker ∙ sym (append_assoc n (128 ∷ []) (w ++ end_marker)) in
      let parts : i ≡ f ++ ((h ++ (w ++ end_marker)) ++ z) = k ∙ ap (λ j. f ++ (j ++ z)) (e ∙ octets) in
      let size : length h ≡ length n + 1 = length-append n (128 ∷ []) in
      let content : o ≡ length f + length h = omega (arith, size, q) in
      let place : o ≡ length (f ++ h) = omega (arith, length-append f h, content) in (
        v,
        trees_first i v.element (listed are o) behind refl,
        (
          parts_of i f h w end_marker z v c true t refl refl refl refl q content refl refl refl parts,
          items_shown i (f ++ h) (end_marker ++ z) o are place (around i f h w end_marker z parts),
        ),
      )

  items_shown : {r : Rules} {d : ℕ} {b : List ℕ} (i f z : List ℕ) (a : ℕ) (are : AreElements r d b) → a ≡ length f → i ≡ f ++ (b ++ z) → AreShownBy are (trees i (listed are a))
  items_shown i f z a none q k = refl
  items_shown i f z a (one_more b rest e is more) q k =
      let first : i ≡ f ++ (b ++ (rest ++ z)) = k ∙ ap (λ j. f ++ (j ++ z)) e ∙ ap (λ j. f ++ j) (append_assoc b rest z) in
      let next : i ≡ (f ++ b) ++ (rest ++ z) = first ∙ sym (append_assoc f b (rest ++ z)) in
      let place : a + length b ≡ length (f ++ b) = omega (arith, length-append f b, q) in
      let s = one_shown i f (rest ++ z) a is (listed more (a + length b)) q first in
      subst (λ vs. AreShownBy (one_more b rest e is more) vs) (sym s.1) (s.2, items_shown i (f ++ b) z (a + length b) more place next)

pub elements_show : ElementsShow
elements_show r d i f b z are e = items_shown i f z (length f) are refl (e ∙ append_assoc f b z)

pub element_shows : ElementShows
element_shows r d i f b z is e =
    let s = one_shown i f z (length f) is [] refl (e ∙ append_assoc f b z) in
    (s.0, ap (λ es. trees i es) (sym (append-nil (listed_one is (length f)))) ∙ s.1, s.2)
