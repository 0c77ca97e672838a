-- One more element that has a form in DER, or has none.
use Rattle.std.proofs.Common.{◌≡◌, ℕ, ◌<◌, false, Option, Some, None, List, [], ◌∷◌, ◌++◌, refl, sym, subst, ◌∙◌, inl, inr, arith}
use Rattle.der_base.specs.declared.header.Class.TheVariants.{Universal}
use Rattle.der_elements.specs.declared.cause.Cause.{Cause}
use Rattle.der_elements.specs.declared.element.Element.{Element}
use Rattle.der_elements.specs.Visits.{Visited}
use Rattle.der_elements.specs.Walked.{visited_of}
use Rattle.der_canon.specs.declared.piece.Parts.{Parts}
use Rattle.der_canon.specs.Errors.{AreParts, IsNoPartAfter}
use Rattle.der_canon.specs.NoDer.{HasDer, HasNoForm, IsNoPart, is_inside, string_after, string_from, string_of, unused_after, unused_from, unused_of, other, unused, part, value}
use Rattle.der_canon.specs.Same.{content_of}

pub no_part : (s : Option Visited) (u : ℕ) (e : Element) (p : Parts) (c : Cause) → AreParts (Some p) s u → p.depth < e.depth → IsNoPartAfter e p c → IsNoPart s u (visited_of e) c
no_part None u e p c a l h = absurd a
no_part (Some x) u e p c (d, n, k) l (inl (never, ec)) = other x refl (omega (arith, d, l)) (λ q. never (q.0, q.1 ∙ sym n)) ec
no_part (Some x) u e p c (d, n, k) l (inr (a, b, z, ec)) = unused x refl (omega (arith, d, l)) a (b ∙ n) (λ q. z (k ∙ q)) ec

pub has_der : (i : List ℕ) (vs : List Visited) (v : Visited) → ((c : Cause) → ¬ IsNoPart (string_after vs) (unused_after i vs) v c)
    → ((c : Cause) → is_inside (string_after vs) v ≡ false → v.constructed ≡ false → v.class ≡ Universal → ¬ HasNoForm v.number (content_of i v) c) → HasDer i vs v
has_der i vs v f g c (part k) = f c k
has_der i vs v f g c (value a b d k) = g c a b d k

string_more : (s : Option Visited) (vs : List Visited) (v : Visited) → string_from s (vs ++ v ∷ []) ≡ string_of (string_from s vs) v
string_more s [] v = refl
string_more s (x ∷ vs) v = string_more (string_of s x) vs v

unused_more : (i : List ℕ) (n : ℕ) (vs : List Visited) (v : Visited) → unused_from i n (vs ++ v ∷ []) ≡ unused_of i v
unused_more i n [] v = refl
unused_more i n (x ∷ vs) v = unused_more i (unused_of i x) vs v

-- the state after one more element
pub parts_more : (i : List ℕ) (vs : List Visited) (v : Visited) (p : Option Parts) → AreParts p (string_of (string_after vs) v) (unused_of i v)
    → AreParts p (string_after (vs ++ v ∷ [])) (unused_after i (vs ++ v ∷ []))
parts_more i vs v p h = subst (λ s. AreParts p s (unused_after i (vs ++ v ∷ []))) (sym (string_more None vs v)) (subst (λ n. AreParts p (string_of (string_after vs) v) n) (sym (unused_more i 0 vs v)) h)
