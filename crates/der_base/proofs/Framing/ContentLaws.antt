-- A content behind a header, a refusal of its framing, and its end within an element: one of them holds at most, and each in one way.
use Rattle.std.proofs.Common.{◌≡◌, ℕ, true, List, ◌∷◌, ◌++◌, length, refl, sym, ap, ◌∙◌, arith, append_assoc, length-append, inr}
use Rattle.der_base.specs.declared.header.Class.TheVariants.{Universal}
use Rattle.der_base.specs.declared.header.Length.{Length}
use Rattle.der_base.specs.declared.header.Length.TheVariants.{Definite, Indefinite}
use Rattle.der_base.specs.Content.{BeginsWithContent, ContentRefuses, ContentLacks}
use Rattle.der_base.specs.Cut.{IsCut, Lacks}
use Rattle.der_base.specs.Octets.{identifier}
use Rattle.der_base.specs.Refusal.{Refusal}
use Rattle.der_base.specs.Spelling.{end_marker, BeginsWithElement}
use Rattle.der_base.proofs.Framing.Cuts.{lacks_same}
use Rattle.der_base.proofs.Framing.UniqueSpelling.{begins_same}
use Rattle.der_base.proofs.Framing.FramingCuts.{open_cut}
use Rattle.der_base.proofs.Framing.FramingLaws.{begins_not_cut, inside_not_refused, inside_refusal_same}
use Rattle.der_base.proofs.Octets.Identifiers.{fronts_same}
use Rattle.der_base.proofs.Framing.FramedIsSpelling.{raws_are}

-- with a header in front, the inside of an indefinite length is an element
abbrev opened : List ℕ → List ℕ
opened v = identifier Universal true 16 ++ 128 ∷ v

opened_begins : (v w rest : List ℕ) (k : ℕ) → BeginsWithContent v Indefinite k w rest → BeginsWithElement (opened v) k Universal true 16 w rest
opened_begins v w rest k (h, hw, e) =
    let a = identifier Universal true 16 in
    let o = ap (λ l. a ++ 128 ∷ l) e ∙ sym (append_assoc a (128 ∷ w ++ end_marker) rest) ∙ ap (λ l. l ++ rest) (sym (append_assoc a (128 ∷ w) end_marker)) in
    (omega arith, omega (arith, h), inr (refl, h, hw, o))

opened_cut : (v : List ℕ) (k n : ℕ) → ContentLacks v Indefinite k n → IsCut (opened v) × Lacks (opened v) n
opened_cut v k n h = open_cut (opened v) v Universal 16 k n refl h

-- the laws

pub content_same : (v w w' rest rest' : List ℕ) (l : Length) (k : ℕ) → BeginsWithContent v l k w rest → BeginsWithContent v l k w' rest' → (w ≡ w') × (rest ≡ rest')
content_same v w w' rest rest' (Definite n) k (z, e) (z', e') = fronts_same w w' rest rest' (z ∙ sym z') (sym e ∙ e')
content_same v w w' rest rest' Indefinite k b b' =
    let q = begins_same (opened v) k k Universal Universal true true 16 16 w w' rest rest' (opened_begins v w rest k b) (opened_begins v w' rest' k b') in
    (q.3, q.4)

pub content_not_refused : (v w rest : List ℕ) (l : Length) (k : ℕ) (e : Refusal) → BeginsWithContent v l k w rest → ContentRefuses v l k e → ⊥
content_not_refused v w rest (Definite n) k e b r = r
content_not_refused v w rest Indefinite k e (h, hw, d) r = inside_not_refused w rest h (raws_are hw) (d ∙ append_assoc w end_marker rest) r

pub content_not_lacking : (v w rest : List ℕ) (l : Length) (k n : ℕ) → BeginsWithContent v l k w rest → ContentLacks v l k n → ⊥
content_not_lacking v w rest (Definite m) k n (z, e) (h, q) = omega (arith, z, ap length e, length-append w rest, h, q)
content_not_lacking v w rest Indefinite k n b h = begins_not_cut (opened v) k Universal true 16 w rest (opened_begins v w rest k b) (opened_cut v k n h).0

pub content_refusal_same : (v : List ℕ) (l : Length) (k : ℕ) (e e' : Refusal) → ContentRefuses v l k e → ContentRefuses v l k e' → e ≡ e'
content_refusal_same v (Definite n) k e e' r r' = absurd r
content_refusal_same v Indefinite k e e' r r' = inside_refusal_same refl refl r r'

pub content_refused_not_lacking : (v : List ℕ) (l : Length) (k n : ℕ) (e : Refusal) → ContentRefuses v l k e → ContentLacks v l k n → ⊥
content_refused_not_lacking v (Definite m) k n e r h = r
content_refused_not_lacking v Indefinite k n e r h = h.not_refused e r

pub content_lacks_same : (v : List ℕ) (l : Length) (k n n' : ℕ) → ContentLacks v l k n → ContentLacks v l k n' → n ≡ n'
content_lacks_same v (Definite m) k n n' (h, q) (h', q') = omega (arith, q, q')
content_lacks_same v Indefinite k n n' h h' = lacks_same (opened_cut v k n h).1 (opened_cut v k n' h').1 refl
