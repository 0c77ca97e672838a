-- The line that ends a block is near the first dashes.
use Rattle.std.proofs.Common.{◌≡◌, ℕ, ◌+◌, ◌≤◌, List, ◌++◌, length, take, drop, refl, sym, ap, subst, ◌∙◌, arith, codes, inl, inr, min, take-append-drop}
use Rattle.std.proofs.Math.Seq.{take-append_seam}
use Rattle.std.proofs.lemmas.Bool.{cases_lt}
use Rattle.std.proofs.lemmas.List.{get_or-append-add, get_or-take, get_or_append_left, length-append, length-take, take-take}
use Rattle.memchr.specs.Find.{Nowhere, OccursAt}
use Rattle.memchr.proofs.lemmas.MatchLemmas.{OccursAt-split}
use Rattle.bstr.specs.Text.{Contains}
use Rattle.der_input.specs.Blocks.{EndsLines, HasNoEnd, SplitsRound}

-- what occurs in a front, and in the whole
pub front_in_whole : (text needle : List ℕ) (m k : ℕ) → OccursAt (take m text) needle k → OccursAt text needle k
front_in_whole text needle m k h =
    let size = length-take m text in
    record {
      fits = omega (arith, size, h.fits);
      reads = λ j small. sym (get_or-take m text (k + j) 0 (omega (arith, size, h.fits))) ∙ h.reads j small;
    }

whole_in_front : (text needle : List ℕ) (m k : ℕ) → k + length needle ≤ min m (length text) → OccursAt text needle k → OccursAt (take m text) needle k
whole_in_front text needle m k within h = record {
  fits = omega (arith, length-take m text, within);
  reads = λ j small. get_or-take m text (k + j) 0 (omega (arith, within)) ∙ h.reads j small;
}

-- a needle between two texts
between : (a needle b : List ℕ) → OccursAt (a ++ (needle ++ b)) needle (length a)
between a needle b = record {
  fits = omega (arith, length-append a (needle ++ b), length-append needle b);
  reads = λ j small. get_or-append-add a (needle ++ b) j 0 ∙ get_or_append_left needle b 0 j small;
}

pub split_at_needle : (text needle a b : List ℕ) → text ≡ a ++ (needle ++ b) → OccursAt text needle (length a)
split_at_needle text needle a b e = subst (λ w. OccursAt w needle (length a)) (sym e) (between a needle b)

-- the begin of a needle
begin_of : (text a b : List ℕ) (k : ℕ) → OccursAt text (a ++ b) k → OccursAt text a k
begin_of text a b k h = record {
  fits = omega (arith, length-append a b, h.fits);
  reads = λ j small. h.reads j (omega (arith, length-append a b, small)) ∙ get_or_append_left a b 0 j small;
}

dashes_at : (text : List ℕ) (k : ℕ) → OccursAt text (codes "-----END ") k → OccursAt text (codes "-----") k
dashes_at text k h = begin_of text (codes "-----") (codes "END ") k h

-- lines and what ends them, near the first dashes at p
pub ends_near : (opened lines after : List ℕ) (p m : ℕ) → Nowhere (OccursAt opened (codes "-----")) 0 p → m ≤ p + 13
    → SplitsRound (take m opened) (codes "-----END ") lines after → EndsLines opened lines (drop (length lines + 9) opened)
ends_near opened lines after p m none near split =
    let end = codes "-----END " in
    let nine : length (codes "-----END ") ≡ 9 = refl in
    let five : length (codes "-----") ≡ 5 = refl in
    let q = length lines in
    let there = split_at_needle (take m opened) end lines after split.whole in
    let within : length lines + 9 ≤ min m (length opened) = omega (arith, nine, length-take m opened, there.fits) in
    let whole = front_in_whole opened end m q there in
    let front : take (length lines) opened ≡ lines =
    sym (take-take q m opened (omega (arith, within))) ∙ ap (take q) split.whole ∙ take-append_seam lines (end ++ after) in
    record {
      split = record {
        whole = sym (take-append-drop q opened) ∙ ap (λ w. take q opened ++ w) (OccursAt-split opened end q whole) ∙ ap (λ w. w ++ (end ++ drop (q + 9) opened)) front;
        first = λ k below h. split.first k below (whole_in_front opened end m k (omega (arith, nine, below, within)) h);
      };
      inside = λ h.
          let inside = front_in_whole opened (codes "-----") q h.0 (subst (λ w. OccursAt w (codes "-----") h.0) (sym front) h.1) in
          none h.0 (omega arith) (omega (arith, five, near, h.1.fits, within)) inside;
    }

-- no line ends what follows a label, if none does near the first dashes
pub ends_nowhere : (opened : List ℕ) (p m : ℕ) → m ≡ min (length opened) (p + 13) → OccursAt opened (codes "-----") p
    → ¬ Contains (take m opened) (codes "-----END ") → HasNoEnd opened
ends_nowhere opened p m is dashes none lines rest e =
    let end = codes "-----END " in
    let nine : length (codes "-----END ") ≡ 9 = refl in
    let five : length (codes "-----") ≡ 5 = refl in
    let q = length lines in
    let there = split_at_needle opened end lines rest e.split.whole in
    let front : take (length lines) opened ≡ lines = ap (take q) e.split.whole ∙ take-append_seam lines (end ++ rest) in
    elim (cases_lt (length lines + 8) m) [
      | inl near ↦ none (q, whole_in_front opened end m q (omega (arith, nine, is, near, there.fits)) there)
      | inr far ↦
          e.inside (p, subst (λ w. OccursAt w (codes "-----") p) front (whole_in_front opened (codes "-----") q p (omega (arith, nine, five, is, far, there.fits)) dashes))
    ]

pub no_dashes : (opened : List ℕ) → Nowhere (OccursAt opened (codes "-----")) 0 (length opened + 1) → HasNoEnd opened
no_dashes opened none lines end e =
    let there = split_at_needle opened (codes "-----END ") lines end e.split.whole in
    none (length lines) (omega arith) (omega (arith, there.fits)) (dashes_at opened (length lines) there)
