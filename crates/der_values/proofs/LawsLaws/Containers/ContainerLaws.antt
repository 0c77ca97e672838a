-- By either rules: the element that begins the input, what a container refuses, and which of the two a run shows. One of them holds at most, and each in one way.
use Rattle.std.proofs.Common.{◌≡◌, ◌≢◌, ℕ, Bool, true, List, ◌++◌, length, Bor, refl, sym, ap, subst, ◌∙◌, arith, length-append, inl, inr}
use Rattle.der_base.specs.declared.error.Err.{Err as Refused}
use Rattle.der_base.specs.declared.error.Error.{Error as BerError}
use Rattle.der_base.specs.declared.error.ErrorKind.{ErrorKind}
use Rattle.der_base.specs.declared.header.Class.{Class}
use Rattle.der_base.specs.declared.header.Class.TheVariants.{Universal}
use Rattle.der_base.specs.declared.header.Header.{Header}
use Rattle.der_base.specs.declared.rules.Rules.{Rules}
use Rattle.der_base.specs.declared.rules.Rules.TheVariants.{Ber, Der}
use Rattle.der_base.specs.Header.{IsHeader, class_of, is_constructed, number_of, length_of, raw_tag_of}
use Rattle.der_base.specs.Headers.{BeginsWithDerHeader}
use Rattle.der_base.specs.Refusal.{Refusal, refusal}
use Rattle.der_base.specs.Containers.{Answered, Opens, BeginsWithElementBy, OpeningRefuses, OpeningLacks, HasShortContent}
use Rattle.der_base.specs.Containers.{Refuses, faulty, cut, too_short, OpensNumber, RefusesNumber, OpensExplicit}
use Rattle.der_base.specs.Containers.{RefusesExplicit, unopened, universal, other_number, primitive, OneCall, stopped}
use Rattle.der_base.specs.Containers.{accepted, NoCall, refused, ContainerRun}
use Rattle.der_base.specs.Spelling.{framing_budget}
use Rattle.der_base.proofs.Framing.Cuts.{lacks_same}
use Rattle.der_base.proofs.Framing.UniqueSpelling.{begins_same}
use Rattle.der_base.proofs.Framing.FramingLaws.{begins_not_refused, begins_not_cut, any_refusal_same}
use Rattle.der_base.proofs.Headers.DerHeaders.{der_header_same, der_header_not_refused, der_header_not_lacking, der_header_refusal_same, der_header_shows_one}
use Rattle.der_base.proofs.Octets.Identifiers.{fronts_same}
use Rattle.der_values.proofs.LawsLaws.Containers.BerContainers.{ber_opens_same, begins_not_short, short_lacks}
use Rattle.der_values.proofs.LawsLaws.Containers.DerContainers.{der_opens_same, opened_size}

-- an input begins with one element
pub element_same : (rules : Rules) (i w w' rest rest' : List ℕ) (c c' : Class) (p p' : Bool) (t t' : ℕ) → BeginsWithElementBy rules i c p t w rest
    → BeginsWithElementBy rules i c' p' t' w' rest' → (c ≡ c') × (p ≡ p') × (t ≡ t') × (w ≡ w') × (rest ≡ rest')
element_same Ber i w w' rest rest' c c' p p' t t' b b' = begins_same i framing_budget framing_budget c c' p p' t t' w w' rest rest' b b'
element_same Der i w w' rest rest' c c' p p' t t' b b' =
    let s = der_header_same i (w ++ rest) (w' ++ rest') c c' p p' t t' (length w) (length w') b b' in
    let f = fronts_same w w' rest rest' s.length s.rest in
    (s.class, s.constructed, s.number, f.0, f.1)

-- what is opened is an element
pub opens_element : (rules : Rules) (i w after : List ℕ) (h : Header) → Opens rules i h w after
    → BeginsWithElementBy rules i (class_of h) (is_constructed h) (number_of h) w after
opens_element Ber i w after h o = o.element
opens_element Der i w after h o = subst (λ n. BeginsWithDerHeader i (class_of h) (is_constructed h) (number_of h) n (w ++ after)) (opened_size i w after h o) o.0.begins

-- the input opens in one way
pub opens_same : (rules : Rules) (i w w' after after' : List ℕ) (h h' : Header) → Opens rules i h w after → Opens rules i h' w' after'
    → IsHeader h (class_of h') (is_constructed h') (number_of h') (length_of h') (raw_tag_of h') × (w ≡ w') × (after ≡ after')
opens_same Ber = ber_opens_same
opens_same Der = der_opens_same

-- an element in front shows no fault
pub element_not_faulty : (rules : Rules) (i w rest : List ℕ) (c : Class) (p : Bool) (t : ℕ) (e : Refusal) → BeginsWithElementBy rules i c p t w rest → OpeningRefuses rules i e → ⊥
element_not_faulty Ber i w rest c p t e b r = begins_not_refused i c p t w rest e b r
element_not_faulty Der i w rest c p t e b r = der_header_not_refused i (w ++ rest) c p t (length w) e b r

-- lacks nothing
pub element_not_lacking : (rules : Rules) (i w rest : List ℕ) (c : Class) (p : Bool) (t n : ℕ) → BeginsWithElementBy rules i c p t w rest → OpeningLacks rules i n → ⊥
element_not_lacking Ber i w rest c p t n b l = begins_not_cut i framing_budget c p t w rest b l.0.0
element_not_lacking Der i w rest c p t n b l = der_header_not_lacking i (w ++ rest) c p t (length w) n b l.1

-- and is no short content
pub element_not_short : (rules : Rules) (i w rest v : List ℕ) (c : Class) (p : Bool) (t : ℕ) → BeginsWithElementBy rules i c p t w rest → HasShortContent rules i v → ⊥
element_not_short Ber i w rest v c p t b s = begins_not_short i c p t w rest v b s
element_not_short Der i w rest v c p t b (c', p', t', n, h, l) =
    let s = der_header_same i (w ++ rest) v c c' p p' t t' (length w) n b h in
    omega (arith, l, s.length, ap length s.rest, length-append w rest)

-- an input whose content is short shows no fault
pub short_not_faulty : (rules : Rules) (i v : List ℕ) (e : Refusal) → HasShortContent rules i v → OpeningRefuses rules i e → ⊥
short_not_faulty Ber i v e s r = (short_lacks i v s).1.2 e r
short_not_faulty Der i v e (c, p, t, n, h, l) r = der_header_not_refused i v c p t n e h r

pub short_not_lacking : (rules : Rules) (i v : List ℕ) (n : ℕ) → HasShortContent rules i v → OpeningLacks rules i n → ⊥
short_not_lacking Ber i v n s l = l.1 v s
short_not_lacking Der i v n (c, p, t, m, h, s) l = der_header_not_lacking i v c p t m n h l.1

-- of a fault and a lack an input shows one, in one way
pub faulty_not_lacking : (rules : Rules) (i : List ℕ) (e : Refusal) (n : ℕ) → OpeningRefuses rules i e → OpeningLacks rules i n → ⊥
faulty_not_lacking Ber i e n r l = l.0.2 e r
faulty_not_lacking Der i e n r l = l.2 e r

pub fault_same : (rules : Rules) (i : List ℕ) (e e' : Refusal) → OpeningRefuses rules i e → OpeningRefuses rules i e' → e ≡ e'
fault_same Ber i e e' r r' = any_refusal_same i e e' r r'
fault_same Der i e e' r r' = der_header_refusal_same i e e' r r'

pub lack_same : (rules : Rules) (i : List ℕ) (n n' : ℕ) → OpeningLacks rules i n → OpeningLacks rules i n' → n ≡ n'
lack_same Ber i n n' l l' = lacks_same l.0.1 l'.0.1 refl
lack_same Der i n n' l l' = (der_header_shows_one i).one_lack n n' l l'

module _ {E : Type 0} {rules : Rules} {from_error_kind_gives : Bor (List ℕ) → ErrorKind → E → Type 0} {from_gives : BerError → E → Type 0} {i : List ℕ} where
  -- an element in front is not refused
  pub element_passes : {r : Refused E} (c : Class) (p : Bool) (t : ℕ) (w rest : List ℕ) → BeginsWithElementBy rules i c p t w rest → Refuses rules from_error_kind_gives from_gives i r → ⊥
  element_passes c p t w rest b (faulty {e = e} f g) = element_not_faulty rules i w rest c p t (refusal e) b f
  element_passes c p t w rest b (cut {n = n} l) = element_not_lacking rules i w rest c p t n b l
  element_passes c p t w rest b (too_short {behind = v} s k) = element_not_short rules i w rest v.now c p t b s

  -- nor for its number
  pub number_passes : {r : Refused E} (c : Class) (p : Bool) (t : ℕ) (w rest : List ℕ) → BeginsWithElementBy rules i c p t w rest
      → RefusesNumber rules from_error_kind_gives from_gives t i r → ⊥
  number_passes c p t w rest b (unopened u) = element_passes c p t w rest b u
  number_passes c p t w rest b (other_number h w' after q z e g) =
      z (sym (element_same rules i w w' rest after c (class_of h) p (is_constructed h) t (number_of h) b (opens_element rules i w' after h q)).2)

  -- nor is an explicit tag
  pub explicit_passes : {r : Refused E} (c : Class) (t : ℕ) (w rest : List ℕ) → BeginsWithElementBy rules i c true t w rest → c ≢ Universal
      → RefusesExplicit rules from_error_kind_gives from_gives t i r → ⊥
  explicit_passes c t w rest b o (unopened u) = element_passes c true t w rest b u
  explicit_passes c t w rest b o (universal h w' after q k e g) =
      o ((element_same rules i w w' rest after c (class_of h) true (is_constructed h) t (number_of h) b (opens_element rules i w' after h q)).0 ∙ k)
  explicit_passes c t w rest b o (other_number h w' after q k z e g) =
      z (sym (element_same rules i w w' rest after c (class_of h) true (is_constructed h) t (number_of h) b (opens_element rules i w' after h q)).2)
  explicit_passes c t w rest b o (primitive h w' after q k z n e g) =
      let s = (element_same rules i w w' rest after c (class_of h) true (is_constructed h) t (number_of h) b (opens_element rules i w' after h q)).1 ∙ n in cc

  -- so what is opened is not refused
  pub opened_passes : {r : Refused E} (h : Header) (w after : List ℕ) → Opens rules i h w after → Refuses rules from_error_kind_gives from_gives i r → ⊥
  opened_passes h w after o u = element_passes (class_of h) (is_constructed h) (number_of h) w after (opens_element rules i w after h o) u

  pub opened_number_passes : {r : Refused E} (n : ℕ) (h : Header) (w after : List ℕ) → OpensNumber rules n i h w after
      → RefusesNumber rules from_error_kind_gives from_gives n i r → ⊥
  opened_number_passes n h w after (o, z) u =
      number_passes (class_of h) (is_constructed h) n w after
      (subst (λ t. BeginsWithElementBy rules i (class_of h) (is_constructed h) t w after) z (opens_element rules i w after h o)) u

  pub opened_explicit_passes : {r : Refused E} (n : ℕ) (h : Header) (w after : List ℕ) → OpensExplicit rules n i h w after
      → RefusesExplicit rules from_error_kind_gives from_gives n i r → ⊥
  opened_explicit_passes n h w after (o, k, z, b) u =
      let e = subst (λ t. BeginsWithElementBy rules i (class_of h) (is_constructed h) t w after) z (opens_element rules i w after h o) in
      explicit_passes (class_of h) n w after (subst (λ p. BeginsWithElementBy rules i (class_of h) p n w after) b e) k u

module _ {F O E : Type 0} (opens : Header → List ℕ → List ℕ → Type 0) (refuses : Refused E → Type 0) (step : F → Bor (List ℕ) → Header → Answered O E → F → Type 0) where
  -- of the two ends of a run, the one that is not excluded
  pub one_call : {f g : F} {r : Answered O E} → ContainerRun opens refuses step f r g → ((e : Refused E) → ¬ refuses e) → OneCall opens step f r g
  one_call (inl (refused {e = e} h)) n = absurd (n e h)
  one_call (inr h) n = h

  pub no_call : {f g : F} {r : Answered O E} → ContainerRun opens refuses step f r g → ((h : Header) (w after : List ℕ) → ¬ opens h w after) → NoCall refuses f r g
  no_call (inl h) n = h
  no_call (inr (stopped {h = h} {w = w} {after = after} o s e)) n = absurd (n h w after o)
  no_call (inr (accepted {h = h} {w = w} {after = after} o s e)) n = absurd (n h w after.now o)
