-- Where a needle occurs, and its first octet.
use Rattle.std.proofs.Common.{◌≡◌, ℕ, ◌+◌, ◌-◌, ◌<◌, ◌≤◌, Bool, IsTrue, List, length, take, drop, sym, ap, ◌∙◌, arith}
use Rattle.std.specs.Prelude.{◌↔◌, slice_index}
use Rattle.std.specs.Str.{bytes_eq}
use Rattle.std.proofs.lemmas.Bool.Decides.{nat_tests}
use Rattle.std.proofs.lemmas.List.{get_or-drop, length-drop, length-take}
use Rattle.std.proofs.lemmas.Slice.Eq.{bytes_eq-Decides}
use Rattle.memchr.specs.Find.{OccursAt, Passes, is_byte}
use Rattle.memchr.proofs.lemmas.MatchLemmas.{OccursAt-from_part, OccursAt-part}

-- a place of a rest, as one of the whole
pub passes_in_rest : (test : ℕ → Bool) (text : List ℕ) (from k : ℕ) → from ≤ k → Passes test text k → Passes test (drop from text) (k - from)
passes_in_rest test text from k low h = ap test (get_or-drop from text (k - from) 0 ∙ ap (λ n. slice_index text n) (omega arith)) ∙ h

pub passes_in_whole : (test : ℕ → Bool) (text : List ℕ) (from j : ℕ) → Passes test (drop from text) j → Passes test text (from + j)
passes_in_whole test text from j h = ap test (sym (get_or-drop from text j 0)) ∙ h

-- what a rest begins with
pub occurs_by : (text needle rest : List ℕ) (k : ℕ) (b : Bool) → k ≤ length text → rest ≡ drop k text → b ≡ bytes_eq needle (take (length needle) rest) → IsTrue b ↔ OccursAt text needle k
occurs_by text needle rest k b within er eb = (
  λ t.
      let part = ap (take (length needle)) (sym er) ∙ sym ((bytes_eq-Decides needle (take (length needle) rest)).0 (sym eb ∙ t)) in
      OccursAt-from_part text needle k (omega (arith, ap length part, length-take (length needle) (drop k text), length-drop k text)) part,
  λ h. eb ∙ (bytes_eq-Decides needle (take (length needle) rest)).1 (sym (ap (take (length needle)) er ∙ OccursAt-part text needle k h)),
)

-- its first octet is where it occurs
pub first_octet : (text needle : List ℕ) (octet k : ℕ) → 0 < length needle → slice_index needle 0 ≡ octet → OccursAt text needle k → (k < length text) × Passes (is_byte octet) text k
first_octet text needle octet k some first h =
    let same : slice_index text k ≡ octet = ap (λ n. slice_index text n) (omega arith) ∙ h.reads 0 some ∙ first in
    (omega (arith, h.fits), grind (arith, nat_tests))
