-- A loop over the elements inside an indefinite length: what it read so far is elements, and what stands behind them answers for the whole.
use Rattle.std.proofs.Common.{◌≡◌, ℕ, ◌-◌, ◌≤◌, Bool, List, ◌++◌, Err, length, length-append, take, sym, ap, subst, ◌∙◌, arith, append_assoc}
use Rattle.std.proofs.lemmas.List.{take_at}
use Rattle.der_base.specs.declared.error.Err.{Err as Refused}
use Rattle.der_base.specs.declared.error.Error.{Error as BerError}
use Rattle.der_base.specs.declared.header.Class.{Class}
use Rattle.der_base.specs.declared.header.Length.{Length}
use Rattle.der_base.specs.declared.header.Length.TheVariants.{Indefinite}
use Rattle.der_base.specs.Answer.{MatchAnswer}
use Rattle.der_base.specs.Content.{BeginsWithContent, ContentRefuses, ContentLacks}
use Rattle.der_base.specs.Fault.{BerHeaderRefuses, HasHeader, InsideRefuses, at_header, too_deep}
use Rattle.der_base.specs.Headers.{BeginsWithHeader, BerHeaderLacks}
use Rattle.der_base.specs.Inner.Framed.{AreElements}
use Rattle.der_base.specs.Refusal.{max_depth}
use Rattle.der_base.specs.Spelling.{end_marker}
use Rattle.der_base.proofs.Answers.Answering.{passed_on}
use Rattle.der_base.proofs.Framing.FramedIsSpelling.{are_raws}
use Rattle.der_base.proofs.Framing.FramingCuts.{lacks_header, lacks_content, refuses_content}
use Rattle.der_base.proofs.Framing.FramingLists.{has_header, none_at_zero, behind_marker}

module _ (rest : List ℕ) {i u : List ℕ} {k : ℕ} (us : AreElements u (k - 1)) (parts : i ≡ u ++ rest) where
  -- the next header is refused or cut
  pub header_answered : {T T' : Type 0} (P : T → Type 0) (P' : T' → Type 0) (M : Type 0) (e : Refused BerError) → 1 ≤ k
      → MatchAnswer {T = T} (Err e) P (BerHeaderRefuses rest) (BerHeaderLacks rest) ⊥ → MatchAnswer {T = T'} (Err e) P' (ContentRefuses i Indefinite k) (ContentLacks i Indefinite k) M
  header_answered P P' M e some h =
      passed_on P P' e h (λ x r. at_header u rest some parts (are_raws us) r) (λ n l. lacks_header i u rest k n some us parts l) (λ m. absurd m)

  module _ {behind : List ℕ} {c : Class} {p : Bool} {t : ℕ} {l : Length} (begins : BeginsWithHeader rest c p t l behind) where
    -- it is there, and the budget is used up
    pub no_budget : k ≡ 1 → InsideRefuses i k max_depth
    no_budget one = too_deep one (subst HasHeader (sym (parts ∙ ap (λ x. x ++ rest) (none_at_zero us (omega (arith, one))))) (has_header rest behind c p t l begins))

    -- the end marker is there
    pub ends_here : 2 ≤ k → (x : List ℕ) × (rest ≡ end_marker ++ x) → (take (length i - length rest) i ≡ u) × BeginsWithContent i Indefinite k u behind
    ends_here two m =
        let n = length i - length rest in
        let marker = m.1 ∙ ap (λ x. end_marker ++ x) (sym (behind_marker rest m.0 behind c p t l m.1 begins)) in (
          ap (λ x. take n x) parts ∙ take_at u rest n (omega (arith, ap length parts, length-append u rest)),
          (two, are_raws us, parts ∙ ap (λ x. u ++ x) marker ∙ sym (append_assoc u end_marker behind)),
        )

    -- the content behind the header is refused or cut
    pub content_answered : {T T' : Type 0} (P : T → Type 0) (P' : T' → Type 0) (N M : Type 0) (e : Refused BerError) → 2 ≤ k → (N → M)
        → MatchAnswer {T = T} (Err e) P (ContentRefuses behind l (k - 1)) (ContentLacks behind l (k - 1)) N
        → MatchAnswer {T = T'} (Err e) P' (ContentRefuses i Indefinite k) (ContentLacks i Indefinite k) M
    content_answered P P' N M e two memory h =
        passed_on P P' e h (λ x r. refuses_content i u rest behind k x c p t l two us parts begins r) (λ n r. lacks_content i u rest behind k n c p t l two us parts begins r) memory
