-- One more piece that is counted.
use Rattle.std.proofs.Common.{◌≡◌, ℕ, ◌+◌, ◌^◌, ◌≤◌, ◌⊎◌, Bool, true, false, Option, Some, None, List, [], ◌∷◌, ◌++◌, length, OnSome, is_some, refl, sym, ap, subst, ◌∙◌, inl, inr, arith}
use Rattle.der_base.specs.Octets.{identifier}
use Rattle.der_elements.specs.declared.element.Element.{Element}
use Rattle.der_elements.specs.Visits.{Visited}
use Rattle.der_elements.specs.Walked.{HasOctets, visited_of}
use Rattle.der_canon.specs.declared.piece.Parts.{Parts}
use Rattle.der_canon.specs.declared.piece.Piece.{Piece}
use Rattle.der_canon.specs.declared.piece.Pieces.{Pieces}
use Rattle.der_canon.specs.declared.size.Sizes.{Sizes}
use Rattle.der_canon.specs.Pieces.{IsForm, depth_of}
use Rattle.der_canon.specs.Same.{content_of, is_part, parts_of}
use Rattle.der_canon.specs.Sizes.{HasSizes, part, part_size, with_length}
use Rattle.der_canon.specs.Sizes.{primitive as primitive_size, constructed as constructed_size}
use Rattle.der_canon.specs.Sizing.{AddsElement, AddsPart, AddsPiece, ComesTo, cost, costs, most, primitive, constructed}
use Rattle.der_canon.proofs.Costs.{costs_push}
use Rattle.der_canon.proofs.Steps.{not_false, not_true, octets_of}

pub both_some : (r : Option (Unit {0})) (P Q R : Type 0) → (P → Q → R) → OnSome r P → OnSome r Q → OnSome r R
both_some (Some x) P Q R f a b = f a b
both_some None P Q R f a b = a

part_more : (i : List ℕ) (vs : List Visited) (s : Option ℕ) (e : Element) (a b : Sizes) → HasSizes i vs s a.around.items a.here → is_part s (visited_of e) ≡ true
    → HasOctets i e → AddsPart e a b → HasSizes i (vs ++ visited_of e ∷ []) s b.around.items b.here
part_more i vs s e a b h inner g (primitive w con is around here) =
    let v = visited_of e in
    part vs v a.here (subst (λ ms. HasSizes i vs s ms a.here) (sym around) h) inner refl
    (here ∙ ap (λ p. a.here + part_size p e.number w.now) (sym con) ∙ ap (λ z. a.here + part_size e.constructed e.number z) (sym (octets_of i e w g is)))
part_more i vs s e a b h inner g (constructed con around here) =
    let v = visited_of e in
    let none : a.here ≡ a.here + part_size true e.number (content_of i v) = omega arith in
    part vs v a.here (subst (λ ms. HasSizes i vs s ms a.here) (sym around) h) inner refl
    (here ∙ none ∙ ap (λ p. a.here + part_size p e.number (content_of i v)) (sym con))

element_more : (i : List ℕ) (vs : List Visited) (s : Option ℕ) (e : Element) (a b : Sizes) → HasSizes i vs s a.around.items a.here → is_part s (visited_of e) ≡ false
    → HasOctets i e → AddsElement e a b → HasSizes i (vs ++ visited_of e ∷ []) (parts_of (visited_of e)) b.around.items b.here
element_more i vs s e a b h free g (primitive k w con ends is here) =
    primitive_size vs (visited_of e) s a.around.items a.here k h free ends con
    (here ∙ ap (λ z. k + length z + with_length (length w.now)) g.identifier ∙ ap (λ z. k + length (identifier e.class e.constructed e.number) + with_length (length z)) (sym (octets_of i e w g is))) refl refl
element_more i vs s e a b h free g (constructed ks k con ends around here) =
    constructed_size vs (visited_of e) s a.around.items ks a.here k h free ends con (around ∙ ap (λ z. ks ++ (k + length z) ∷ []) g.identifier) here refl refl

pub size_step : (i : List ℕ) (vs : List Visited) (s : Option Parts) (x : Piece) (p : Pieces) (a b : Sizes) → HasSizes i vs (depth_of s) a.around.items a.here
    → HasOctets i x.element → IsForm s (visited_of x.element) x.form p.parts → AddsPiece x a b
    → HasSizes i (vs ++ visited_of x.element ∷ []) (depth_of p.parts) b.around.items b.here
size_step i vs s x p a b h g f (inl (plain, adds)) =
    let v = visited_of x.element in
    let e : is_part (depth_of s) v ≡ true = not_false (is_part (depth_of s) v) (sym f.header ∙ plain) in
    subst (λ t. HasSizes i (vs ++ v ∷ []) t b.around.items b.here) (sym (f.part e)) (part_more i vs (depth_of s) x.element a b h e g adds)
size_step i vs s x p a b h g f (inr (headed, adds)) =
    let v = visited_of x.element in
    let e : is_part (depth_of s) v ≡ false = not_true (is_part (depth_of s) v) (sym f.header ∙ headed) in
    subst (λ t. HasSizes i (vs ++ v ∷ []) t b.around.items b.here) (sym (f.whole e)) (element_more i vs (depth_of s) x.element a b h e g adds)

-- The elements vs are counted, if they can be: the contents that go on have so many octets. Or the elements are too many.
abbrev pub Counts : List ℕ → List Visited → Option ℕ → Sizes → Bool → Type 0
Counts i vs s a true = HasSizes i vs s a.around.items a.here × (most a ≤ costs vs)
Counts i vs s a false = 2 ^ 64 ≤ costs vs

-- with one more
pub count_step : (i : List ℕ) (vs : List Visited) (s : Option Parts) (x : Piece) (p : Pieces) (a b : Sizes) (r : Option (Unit {0}))
    → Counts i vs (depth_of s) a true → HasOctets i x.element → IsForm s (visited_of x.element) x.form p.parts → OnSome r (AddsPiece x a b)
    → ComesTo (most a + cost (visited_of x.element)) b r → Counts i (vs ++ visited_of x.element ∷ []) (depth_of p.parts) b (is_some r)
count_step i vs s x p a b (Some t) h g f adds comes = (size_step i vs s x p a b h.0 g f adds, omega (arith, h.1, comes, costs_push vs (visited_of x.element)))
count_step i vs s x p a b None h g f adds comes = omega (arith, h.1, comes, costs_push vs (visited_of x.element))

pub count_next : (i : List ℕ) (vs : List Visited) (s : Option Parts) (x : Piece) (p : Pieces) (a b c : Sizes) (r : Option (Unit {0})) (before after : Bool)
    → Counts i vs (depth_of s) a before → before ≡ true → HasOctets i x.element → IsForm s (visited_of x.element) x.form p.parts → OnSome r (AddsPiece x a b)
    → ComesTo (most a + cost (visited_of x.element)) b r → c ≡ b → after ≡ is_some r
    → Counts i (vs ++ visited_of x.element ∷ []) (depth_of p.parts) c after
count_next i vs s x p a b c r before after h fits g f adds comes e k =
    let all = count_step i vs s x p a b r (subst (λ t. Counts i vs (depth_of s) a t) fits h) g f adds comes in
    let more = subst (λ t. Counts i (vs ++ visited_of x.element ∷ []) (depth_of p.parts) b t) (sym k) all in
    subst (λ t. Counts i (vs ++ visited_of x.element ∷ []) (depth_of p.parts) t after) (sym e) more

-- after too many there are more
pub more_uncounted : (i : List ℕ) (vs : List Visited) (s t : Option ℕ) (v : Visited) (a b : Sizes) (before after : Bool) → Counts i vs s a before
    → before ≡ false → after ≡ false → Counts i (vs ++ v ∷ []) t b after
more_uncounted i vs s t v a b before after h e k =
    let many : 2 ^ 64 ≤ costs vs = subst (λ q. Counts i vs s a q) e h in
    let more : 2 ^ 64 ≤ costs (vs ++ v ∷ []) = omega (arith, many, costs_push vs v) in
    subst (λ q. Counts i (vs ++ v ∷ []) t b q) (sym k) more

pub too_many : (i : List ℕ) (vs : List Visited) (s : Option ℕ) (a : Sizes) (fits : Bool) → Counts i vs s a fits → (fits ≡ false) ⊎ (2 ^ 64 ≤ most a) → 2 ^ 64 ≤ costs vs
too_many i vs s a true h (inl e) = absurd (cc)
too_many i vs s a true h (inr e) = omega (arith, h.1, e)
too_many i vs s a false h e = h

pub some_map : {X : Type 0} (r : Option X) (P Q : Type 0) → (P → Q) → OnSome r P → OnSome r Q
some_map (Some x) P Q f h = f h
some_map None P Q f h = h
