-- Elements, and their contents in the input.
use Rattle.std.specs.Borrow.{Bor}
use Rattle.std.proofs.Common.{◌≡◌, ◌+◌, Bool, true, false, not, Some, List, ℕ, length, unwrap_or, refl, sym, ap, ◌∙◌}
use Rattle.der_elements.specs.declared.element.Element.{Element}
use Rattle.der_elements.specs.Walked.{HasOctets, between, visited_of}
use Rattle.der_canon.specs.Same.{content_of}

pub not_false : (b : Bool) → not b ≡ false → b ≡ true
not_false true h = refl
not_false false h = sym h

pub not_true : (b : Bool) → not b ≡ true → b ≡ false
not_true true h = sym h
not_true false h = refl

-- the content of an element is in the input at its place
pub octets_of : (i : List ℕ) (e : Element) (w : Bor (List ℕ)) → HasOctets i e → e.content ≡ Some w → content_of i (visited_of e) ≡ w.now
octets_of i e w h is =
    let p = rw is at h.content in
    let n : unwrap_or e.length 0 ≡ length w.now = ap (λ l. unwrap_or l 0) p.0 in
    ap (λ k. between i (e.offset + e.header) (e.offset + e.header + k)) n ∙ sym p.1
