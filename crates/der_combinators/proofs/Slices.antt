-- The contents that a slice reader finds, its refusals and its lack of octets: one of them holds at most, and each in one way.
use Rattle.std.proofs.Common.{◌≡◌, ℕ, Some, List, Err, refl, sym, ap, subst, ◌∙◌, inl, inr}
use Rattle.der_base.specs.declared.error.Err.{Err as Refused}
use Rattle.der_base.specs.declared.error.Error.{Error as BerError}
use Rattle.der_base.specs.declared.error.Error.TheVariants.{NomError}
use Rattle.der_base.specs.declared.header.Header.{Header}
use Rattle.der_base.specs.declared.rules.Rules.{Rules}
use Rattle.der_base.specs.Answer.{MatchAnswer}
use Rattle.der_base.specs.Containers.{BeginsWithElementBy, OpeningLacks, OpensNumber, RefusesNumber, unopened, other_number}
use Rattle.der_base.specs.Containers.{faulty, cut, too_short}
use Rattle.der_base.specs.Header.{class_of, is_constructed, number_of}
use Rattle.der_base.specs.Refusal.{Refusal, unexpected_tag}
use Rattle.der_base.proofs.Answers.Exactness.{ShowsOne}
use Rattle.der_values.proofs.LawsLaws.Containers.ContainerLaws.{element_same, opens_element, element_not_faulty, element_not_lacking, element_not_short}
use Rattle.der_values.proofs.LawsLaws.Containers.ContainerLaws.{short_not_faulty, short_not_lacking, faulty_not_lacking, fault_same, lack_same}
use Rattle.der_combinators.specs.Slices.{ReadsSlice, SliceRefuses, slice_value_of}

-- an element of the number that is opened
pub opened : (rules : Rules) (n : ℕ) (i w after : List ℕ) (h : Header) → OpensNumber rules n i h w after → ReadsSlice rules n i w after
opened rules n i w after h (o, z) =
    (class_of h, is_constructed h, subst (λ t. BeginsWithElementBy rules i (class_of h) (is_constructed h) t w after) z (opens_element rules i w after h o))

-- what a container of the number refuses, told by the errors of the crate
pub unopened_slice : {T : Type 0} (P : T → Type 0) {rules : Rules} {n : ℕ} {i : List ℕ} {r : Refused BerError}
    → RefusesNumber rules (λ v k e. e ≡ NomError k) (λ y x. x ≡ y) n i r
    → MatchAnswer (Err r) P (SliceRefuses rules n i) (OpeningLacks rules i) ⊥
unopened_slice P (unopened (faulty h g)) = inl (rw g h)
unopened_slice P (unopened (cut l)) = l
unopened_slice P (unopened (too_short {behind = v} s k)) = rw k (inr (inl (v.now, s, refl)))
unopened_slice P {rules = rules} {i = i} (other_number h w after o z e g) =
    rw g (inr (inr (number_of h, w, after, (class_of h, is_constructed h, opens_element rules i w after h o), z, e)))

module _ (rules : Rules) where
  -- an element has one number, and its content is found in one way
  slice_same : (t n : ℕ) (i w w' rest rest' : List ℕ) → ReadsSlice rules t i w rest → ReadsSlice rules n i w' rest' → (t ≡ n) × (w ≡ w') × (rest ≡ rest')
  slice_same t n i w w' rest rest' (c, p, b) (c', p', b') =
      let s = element_same rules i w w' rest rest' c c' p p' t n b b' in (s.2, s.3, s.4)

  -- one that is found is not refused
  slice_not_refused : (n : ℕ) (i w rest : List ℕ) (e : Refusal) → ReadsSlice rules n i w rest → SliceRefuses rules n i e → ⊥
  slice_not_refused n i w rest e (c, p, b) (inl r) = element_not_faulty rules i w rest c p n e b r
  slice_not_refused n i w rest e (c, p, b) (inr (inl (v, s, q))) = element_not_short rules i w rest v c p n b s
  slice_not_refused n i w rest e b (inr (inr (t, w', rest', b', o, q))) = o (slice_same t n i w' w rest' rest b' b).0

  -- a refusal excludes a lack of octets
  refused_not_lacking : (n : ℕ) (i : List ℕ) (e : Refusal) (m : ℕ) → SliceRefuses rules n i e → OpeningLacks rules i m → ⊥
  refused_not_lacking n i e m (inl r) l = faulty_not_lacking rules i e m r l
  refused_not_lacking n i e m (inr (inl (v, s, q))) l = short_not_lacking rules i v m s l
  refused_not_lacking n i e m (inr (inr (t, w, rest, (c, p, b), o, q))) l = element_not_lacking rules i w rest c p t m b l

  -- and has one name
  refusal_same : (n : ℕ) (i : List ℕ) (e e' : Refusal) → SliceRefuses rules n i e → SliceRefuses rules n i e' → e ≡ e'
  refusal_same n i e e' (inl r) (inl r') = fault_same rules i e e' r r'
  refusal_same n i e e' (inl r) (inr (inl (v, s, q))) = absurd (short_not_faulty rules i v e s r)
  refusal_same n i e e' (inl r) (inr (inr (t, w, rest, (c, p, b), o, q))) = absurd (element_not_faulty rules i w rest c p t e b r)
  refusal_same n i e e' (inr (inl (v, s, q))) (inl r) = absurd (short_not_faulty rules i v e' s r)
  refusal_same n i e e' (inr (inl (v, s, q))) (inr (inl (v', s', q'))) = q ∙ sym q'
  refusal_same n i e e' (inr (inl (v, s, q))) (inr (inr (t, w, rest, (c, p, b), o, q'))) = absurd (element_not_short rules i w rest v c p t b s)
  refusal_same n i e e' (inr (inr (t, w, rest, (c, p, b), o, q))) (inl r) = absurd (element_not_faulty rules i w rest c p t e' b r)
  refusal_same n i e e' (inr (inr (t, w, rest, (c, p, b), o, q))) (inr (inl (v, s, q'))) = absurd (element_not_short rules i w rest v c p t b s)
  refusal_same n i e e' (inr (inr (t, w, rest, b, o, q))) (inr (inr (t', w', rest', b', o', q'))) =
      q ∙ ap (unexpected_tag (Some n)) (slice_same t t' i w w' rest rest' b b').0 ∙ sym q'

  -- of a content, a refusal and a lack, an input shows one at most
  pub slice_shows_one : (n : ℕ) (i : List ℕ)
      → ShowsOne slice_value_of (λ x. ReadsSlice rules n i x.1.now x.0.now) (λ v. ReadsSlice rules n i v.0 v.1) (SliceRefuses rules n i) (OpeningLacks rules i)
  slice_shows_one n i = record {
    spelled = λ x r. r;
    one_value = λ x v r s. (let z = slice_same n n i x.1.now v.0 x.0.now v.1 r s in ap (λ w. (w, x.0.now)) z.1 ∙ ap (λ w. (v.0, w)) z.2);
    one_refusal = λ e e' r r'. refusal_same n i e e' r r';
    one_lack = λ m m' l l'. lack_same rules i m m' l l';
    not_refused = λ v e s r. slice_not_refused n i v.0 v.1 e s r;
    not_lacking = λ v m s l. (let (c, p, b) = s in element_not_lacking rules i v.0 v.1 c p n m b l);
    not_both = λ e m r l. refused_not_lacking n i e m r l;
  }
