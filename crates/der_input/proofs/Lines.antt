-- Where blocks begin.
use Rattle.std.proofs.Common.{◌≡◌, ℕ, zero, suc, ◌+◌, ◌-◌, ◌<◌, ◌≤◌, ◌&&◌, Bool, true, false, cond, List, length, drop, take, Option, Some, None, refl, sym, ap, ◌∙◌, arith, codes, inl, inr}
use Rattle.std.specs.Borrow.{Bor}
use Rattle.std.specs.Prelude.{MatchOption, find, is_some, slice_index, unwrap_or}
use Rattle.std.proofs.lemmas.Bool.{cases_order, cases_Bool}
use Rattle.std.proofs.lemmas.List.{get_or-drop, get_or-take, length-drop, length-take}
use Rattle.std.specs.List.{range_with_len}
use Rattle.std.specs.Option.{option_and_then, option_or}
use Rattle.bstr.specs.Find.{FindsNeedle, OccursAt, occurs_at}
use Rattle.bstr.specs.Text.{Contains}
use Rattle.memchr.proofs.lemmas.MatchLemmas.{OccursAt-true, occurs_at-true}
use Rattle.der_input.specs.Blocks.{HasLabel, HasNoLabel, OpensBlock, SplitsRound, begins_block, begins_here}
use Rattle.der_input.specs.Marks.{first_place}
use Rattle.der_input.specs.Plain.{behind_headers, behind_line, without_headers}

-- what a search of a rest finds, as offsets of the whole
pub in_rest : (text needle : List ℕ) (from k : ℕ) → from ≤ k → OccursAt text needle k → OccursAt (drop from text) needle (k - from)
in_rest text needle from k low h = record {
  fits = omega (arith, length-drop {A = ℕ}, h.fits);
  reads = λ j small. get_or-drop from text (k - from + j) 0 ∙ ap (λ n. slice_index text n) (omega arith) ∙ h.reads j small;
}

pub in_whole : (text needle : List ℕ) (from j : ℕ) → from ≤ length text → OccursAt (drop from text) needle j → OccursAt text needle (from + j)
in_whole text needle from j low h = record {
  fits = omega (arith, length-drop {A = ℕ}, h.fits);
  reads = λ i small. ap (λ n. slice_index text n) (omega arith) ∙ sym (get_or-drop from text (j + i) 0) ∙ h.reads i small;
}

-- the first number of a range that passes
pub found_none : (p : ℕ → Bool) (a n : ℕ) → ((k : ℕ) → a ≤ k → k < a + n → p k ≡ false) → find p (range_with_len a n) ≡ None
found_none p a zero h = refl
found_none p a (suc n) h =
    ap (λ b. cond b (Some a) (find p (range_with_len (a + 1) n))) (h a (omega arith) (omega arith))
    ∙ found_none p (a + 1) n (λ k low high. h k (omega arith) (omega arith))

pub found_at : (p : ℕ → Bool) (a n k : ℕ) → a ≤ k → k < a + n → p k ≡ true → ((j : ℕ) → a ≤ j → j < k → p j ≡ false) → find p (range_with_len a n) ≡ Some k
found_at p a zero k low high here before = absurd (omega arith)
found_at p a (suc n) k low high here before = elim (cases_order a k) [
  | inl same ↦ (ap (λ b. cond b (Some a) (find p (range_with_len (a + 1) n))) (ap p same ∙ here) ∙ ap Some same)
  | inr (inl more) ↦ (
      ap (λ b. cond b (Some a) (find p (range_with_len (a + 1) n))) (before a (omega arith) more)
      ∙ found_at p (a + 1) n k (omega arith) (omega arith) here (λ j l h. before j (omega arith) h)
      )
  | inr (inr less) ↦ absurd (omega arith)
]

not_there : (text needle : List ℕ) (k : ℕ) → ¬ OccursAt text needle k → occurs_at text needle k ≡ false
not_there text needle k h = elim (cases_Bool (occurs_at text needle k)) [
  | inl there ↦ absurd (h (OccursAt-true text needle k there))
  | inr none ↦ none
]

-- no block begins where its first octets don't occur, or neither a line nor a string begins
pub no_octets : (text : List ℕ) (k : ℕ) → ¬ OccursAt text (codes "-----BEGIN ") k → begins_block text k ≡ false
no_octets text k h = ap (λ b. b && begins_here text k) (not_there text (codes "-----BEGIN ") k h)

pub no_line : (text : List ℕ) (k : ℕ) → begins_here text k ≡ false → begins_block text k ≡ false
no_line text k h = elim (cases_Bool (occurs_at text (codes "-----BEGIN ") k)) [
  | inl there ↦ (ap (λ b. b && begins_here text k) there ∙ h)
  | inr none ↦ ap (λ b. b && begins_here text k) none
]

pub octets_and_line : (text : List ℕ) (k : ℕ) → OccursAt text (codes "-----BEGIN ") k → begins_here text k ≡ true → begins_block text k ≡ true
octets_and_line text k there h = ap (λ b. b && begins_here text k) (occurs_at-true text (codes "-----BEGIN ") k there) ∙ h

-- where a needle occurs first
pub place_some : (text needle : List ℕ) (k : ℕ) → 0 < length needle → OccursAt text needle k → ((j : ℕ) → j < k → ¬ OccursAt text needle j)
    → first_place text needle ≡ Some k
place_some text needle k some here before =
    found_at (occurs_at text needle) 0 (length text) k (omega arith) (omega (arith, here.fits, some)) (occurs_at-true text needle k here)
    (λ j low high. not_there text needle j (before j high))

pub place_none : (text needle : List ℕ) → ((j : ℕ) → ¬ OccursAt text needle j) → first_place text needle ≡ None
place_none text needle h = found_none (occurs_at text needle) 0 (length text) (λ j low high. not_there text needle j (h j))

pub place_is : (text needle : List ℕ) (r : Option ℕ) → 0 < length needle → FindsNeedle text needle 0 r → r ≡ first_place text needle
place_is text needle (Some k) some found =
    sym (place_some text needle k some found.1 (λ j less. found.0.before j (omega arith) less))
place_is text needle None some found =
    sym (place_none text needle (λ j h. found j (omega arith) (omega (arith, h.fits)) h))

-- without a needle, none of its fronts has it
in_front : (text needle : List ℕ) (n k : ℕ) → OccursAt (take n text) needle k → OccursAt text needle k
in_front text needle n k h = record {
  fits = omega (arith, length-take n text, h.fits);
  reads = λ j small. sym (get_or-take n text (k + j) 0 (omega (arith, length-take n text, h.fits, small))) ∙ h.reads j small;
}

no_fields : (text line : List ℕ) → ¬ Contains text (codes ": ") → (r : Option ℕ) → option_and_then (λ k. behind_headers text k (k + length line)) r ≡ None
no_fields text line none None = refl
no_fields text line none (Some k) =
    ap (λ p. cond (is_some p) (Some (drop (k + length line) text)) None) (place_none (take k text) (codes ": ") (λ j h. none (j, in_front text (codes ": ") k j h)))

-- and the text has no headers
pub no_headers : (text : List ℕ) → ¬ Contains text (codes ": ") → text ≡ without_headers text
no_headers text none =
    let at : (line : List ℕ) → behind_line text line ≡ None = λ line. no_fields text line none (first_place text line) in
    sym (ap (λ r. unwrap_or (option_or r (option_or (behind_line text (codes "\n\r\n")) (behind_line text (codes "\\n\\n")))) text) (at (codes "\n\n"))
    ∙ ap (λ r. unwrap_or (option_or r (behind_line text (codes "\\n\\n"))) text) (at (codes "\n\r\n"))
    ∙ ap (λ r. unwrap_or r text) (at (codes "\\n\\n")))

-- a block's label ends with dashes, or there are none
pub labelled : (text block : List ℕ) (r : Option (Bor (List ℕ) × Bor (List ℕ))) → OpensBlock text block
    → MatchOption r (¬ Contains block (codes "-----")) (λ x. SplitsRound block (codes "-----") x.0.now x.1.now)
    → MatchOption r (HasNoLabel text) (λ x. HasLabel text x.0.now x.1.now)
labelled text block None opens none = inr (block, opens, none)
labelled text block (Some x) opens split = (block, opens, split)
