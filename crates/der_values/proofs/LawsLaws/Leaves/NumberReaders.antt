-- Readers of numbers: a number that begins the input, a refusal, and an input that is cut short. One of them holds at most, and each in one way.
use Rattle.std.proofs.Common.{◌≡◌, ℕ, ◌⊎◌, Bool, false, List, ◌++◌, length, ℤ, refl, sym, ap, subst, ◌∙◌, inl, inr, Ok, Err}
use Rattle.std.specs.Borrow.{Bor}
use Rattle.der_base.specs.declared.error.Err.{Err as Refused}
use Rattle.der_base.specs.declared.error.Err.TheVariants.{Error}
use Rattle.der_base.specs.declared.error.Error.{Error as BerError}
use Rattle.der_base.specs.declared.header.Class.{Class}
use Rattle.der_base.specs.Answer.{MatchAnswer}
use Rattle.der_base.specs.Any.{LeadingElement, AnyRefuses, AnyLacks, SpellsAny, DerAnyLacks, SpellsDerAny}
use Rattle.der_base.specs.Fault.{DerHeaderRefuses}
use Rattle.der_base.specs.Inner.Integers.{ber_form_tests, der_form_tests, ReadsBerInteger, ReadsDerInteger, BerIntegerRefuses, DerIntegerRefuses}
use Rattle.der_base.specs.LeafRefusal.{Test, IsFirstRefusal, NoneHolds}
use Rattle.der_base.specs.Numbers.{NumberType, signed, unsigned, number_tests, sign_tests, fits_tests, ber_reader_tests}
use Rattle.der_base.specs.Numbers.{der_reader_tests, NumberRefuses, BeginsWithBerNumber, BeginsWithDerNumber}
use Rattle.der_base.specs.Numbers.{BerNumberRefuses, DerNumberRefuses, leading_number, AnswersBerNumber}
use Rattle.der_base.specs.Numbers.{AnswersDerNumber}
use Rattle.der_base.specs.Octets.{integer_value}
use Rattle.der_base.specs.Refusal.{Refusal, refusal}
use Rattle.der_base.specs.Spelling.{framing_budget}
use Rattle.der_base.specs.Tree.{integer}
use Rattle.der_base.proofs.Answers.Answering.{passed_on}
use Rattle.der_base.proofs.Answers.Exactness.{ShowsOne, exactly}
use Rattle.der_base.proofs.Framing.AnyLaws.{any_shows_one, der_any_shows_one}
use Rattle.der_base.proofs.Framing.UniqueSpelling.{begins_same}
use Rattle.der_base.proofs.Headers.DerHeaders.{der_header_same}
use Rattle.der_base.proofs.Leaves.Refusals.{first_refusal_once, none_refuses, none_of_back, none_of_both, refused_in_front, refused_behind, refused_of_back}
use Rattle.der_base.proofs.Octets.Identifiers.{fronts_same}

abbrev element : Class → Bool → ℕ → List ℕ → List ℕ → LeadingElement
element c p t w rest = record { class = c; constructed = p; number = t; content = w; rest = rest }

module _ {Begins : LeadingElement → Type 0} {ElementRefuses : Refusal → Type 0} {Lacks : ℕ → Type 0} (one : ShowsOne (λ v. v) Begins Begins ElementRefuses Lacks)
    (tests : Bool → ℕ → List ℕ → List Test) where
  abbrev pub SpellsNumber : ℤ × List ℕ → Type 0
  SpellsNumber v = (c : Class) × (w : List ℕ) × Begins (element c false 2 w v.1) × NoneHolds (tests false 2 w) × (v.0 ≡ integer_value w)

  abbrev pub Refuses : Refusal → Type 0
  Refuses e = ElementRefuses e ⊎ ((c : Class) × (p : Bool) × (t : ℕ) × (w rest : List ℕ) × Begins (element c p t w rest) × IsFirstRefusal (tests p t w) e)

  passes_not_refused : (x y : LeadingElement) (e : Refusal) → x ≡ y → NoneHolds (tests x.constructed x.number x.content) → IsFirstRefusal (tests y.constructed y.number y.content) e → ⊥
  passes_not_refused x y e q n h = none_refuses (tests x.constructed x.number x.content) e n (subst (λ z. IsFirstRefusal (tests z.constructed z.number z.content) e) (sym q) h)

  refused_once : (x y : LeadingElement) (e e' : Refusal) → x ≡ y → IsFirstRefusal (tests x.constructed x.number x.content) e → IsFirstRefusal (tests y.constructed y.number y.content) e' → e ≡ e'
  refused_once x y e e' q h g = first_refusal_once (tests x.constructed x.number x.content) e e' h (subst (λ z. IsFirstRefusal (tests z.constructed z.number z.content) e') (sym q) g)

  value_same : (v v' : ℤ × List ℕ) → SpellsNumber v → SpellsNumber v' → v ≡ v'
  value_same (n, rest) (n', rest') (c, w, b, m, e) (c', w', b', m', e') =
      let q = one.one_value (element c false 2 w rest) (element c' false 2 w' rest') b b' in
      ap (λ z. (z, rest)) (e ∙ ap (λ x. integer_value x.content) q ∙ sym e') ∙ ap (λ x. (n', x.rest)) q

  refusal_same : (e e' : Refusal) → Refuses e → Refuses e' → e ≡ e'
  refusal_same e e' (inl r) (inl r') = one.one_refusal e e' r r'
  refusal_same e e' (inl r) (inr (c, p, t, w, rest, b, h)) = absurd (one.not_refused (element c p t w rest) e b r)
  refusal_same e e' (inr (c, p, t, w, rest, b, h)) (inl r') = absurd (one.not_refused (element c p t w rest) e' b r')
  refusal_same e e' (inr (c, p, t, w, rest, b, h)) (inr (c', p', t', w', rest', b', h')) =
      refused_once (element c p t w rest) (element c' p' t' w' rest') e e' (one.one_value (element c p t w rest) (element c' p' t' w' rest') b b') h h'

  not_refused : (v : ℤ × List ℕ) (e : Refusal) → SpellsNumber v → Refuses e → ⊥
  not_refused (n, rest) e (c, w, b, m, q) (inl r) = one.not_refused (element c false 2 w rest) e b r
  not_refused (n, rest) e (c, w, b, m, q) (inr (c', p', t', w', rest', b', h')) =
      passes_not_refused (element c false 2 w rest) (element c' p' t' w' rest') e (one.one_value (element c false 2 w rest) (element c' p' t' w' rest') b b') m h'

  not_both : (e : Refusal) (n : ℕ) → Refuses e → Lacks n → ⊥
  not_both e n (inl r) h = one.not_both e n r h
  not_both e n (inr (c, p, t, w, rest, b, q)) h = one.not_lacking (element c p t w rest) n b h

  pub numbers_one : {T : Type 0} (value : T → ℤ × List ℕ) (Spelled : ℤ × List ℕ → Type 0) → ((v : ℤ × List ℕ) → Spelled v → SpellsNumber v)
      → ShowsOne value (λ x. Spelled (value x)) Spelled Refuses Lacks
  numbers_one value Spelled spelled = record {
    spelled = λ x s. s;
    one_value = λ x v r s. value_same (value x) v (spelled (value x) r) (spelled v s);
    one_refusal = refusal_same;
    one_lack = one.one_lack;
    not_refused = λ v e s r. not_refused v e (spelled v s) r;
    not_lacking = λ v n s h. (let (c, w, b, m, q) = spelled v s in one.not_lacking (element c false 2 w v.1) n b h);
    not_both = not_both;
  }

-- elements by BER and by DER
ber_elements : (i : List ℕ) → ShowsOne (λ v. v) (SpellsAny i) (SpellsAny i) (AnyRefuses i) (AnyLacks i)
ber_elements i = record {
  spelled = λ x s. s;
  one_value =
      λ x v r s. (let z = begins_same i framing_budget framing_budget x.class v.class x.constructed v.constructed x.number v.number x.content v.content x.rest v.rest r s in
      rw (z.0, z.1, z.2, z.3, z.4) refl);
  one_refusal = (any_shows_one i).one_refusal;
  one_lack = (any_shows_one i).one_lack;
  not_refused = (any_shows_one i).not_refused;
  not_lacking = (any_shows_one i).not_lacking;
  not_both = (any_shows_one i).not_both;
}

der_elements : (i : List ℕ) → ShowsOne (λ v. v) (SpellsDerAny i) (SpellsDerAny i) (DerHeaderRefuses i) (DerAnyLacks i)
der_elements i = record {
  spelled = λ x s. s;
  one_value =
      λ x v r s. (let z = der_header_same i (x.content ++ x.rest) (v.content ++ v.rest) x.class v.class x.constructed v.constructed x.number v.number (length x.content) (length v.content) r s in
      let y = fronts_same x.content v.content x.rest v.rest z.length z.rest in rw (z.class, z.constructed, z.number, y.0, y.1) refl);
  one_refusal = (der_any_shows_one i).one_refusal;
  one_lack = (der_any_shows_one i).one_lack;
  not_refused = (der_any_shows_one i).not_refused;
  not_lacking = (der_any_shows_one i).not_lacking;
  not_both = (der_any_shows_one i).not_both;
}

module _ {T : Type 0} (value : T → ℤ) (k : NumberType) (i : List ℕ) where
  ber_numbers_one : ShowsOne (leading_number value) (λ x. BeginsWithBerNumber k i (value x.1) x.0.now) (λ v. BeginsWithBerNumber k i v.0 v.1) (BerNumberRefuses k i) (AnyLacks i)
  ber_numbers_one = numbers_one (ber_elements i) (ber_reader_tests k) (leading_number value) (λ v. BeginsWithBerNumber k i v.0 v.1) (λ v s. (s.class, s.octets, s.element, s.passes, s.value))

  der_numbers_one : ShowsOne (leading_number value) (λ x. BeginsWithDerNumber k i (value x.1) x.0.now) (λ v. BeginsWithDerNumber k i v.0 v.1) (DerNumberRefuses k i) (DerAnyLacks i)
  der_numbers_one = numbers_one (der_elements i) (der_reader_tests k) (leading_number value) (λ v. BeginsWithDerNumber k i v.0 v.1) (λ v s. (s.class, s.octets, s.element, s.passes, s.value))

  -- what a reader of numbers answers, from the INTEGER that it read and the number of that
  pub ber_number_read : (x : Bor (List ℕ) × T) (w : List ℕ) → ReadsBerInteger i w x.0.now → NoneHolds (number_tests k (integer w)) → value x.1 ≡ integer_value w → AnswersBerNumber value k i (Ok x)
  ber_number_read x w (c, b) n e = exactly (Ok x) ber_numbers_one (λ n l m. m) (record { class = c; octets = w; element = b; passes = ((λ h. h refl), ((λ h. cc), n)); value = e })

  pub ber_number_refused : (e : BerError) (w rest : List ℕ) → ReadsBerInteger i w rest → NumberRefuses k (integer w) (refusal e) → AnswersBerNumber value k i (Err (Error e))
  ber_number_refused e w rest (c, b) r = exactly (Err (Error e)) ber_numbers_one (λ n l m. m) (inr (c, false, 2, w, rest, b, inr ((λ h. h refl), inr ((λ h. cc), r))))

  pub ber_number_unread : {T' : Type 0} (P : T' → Type 0) (e : Refused BerError) → MatchAnswer {T = T'} (Err e) P (BerIntegerRefuses i) (AnyLacks i) ⊥ → AnswersBerNumber value k i (Err e)
  ber_number_unread P e h = exactly (Err e) ber_numbers_one (λ n l m. m) (passed_on P (λ x. BeginsWithBerNumber k i (value x.1) x.0.now) e h (λ r q. shown r q) (λ n l. l) (λ m. m))
    where
      shown : (r : Refusal) → BerIntegerRefuses i r → BerNumberRefuses k i r
      shown r (inl q) = inl q
      shown r (inr (c, p, t, w, rest, b, q)) = inr (c, p, t, w, rest, b, refused_in_front (ber_form_tests p t w) (number_tests k (integer w)) r q)

-- by DER, the sign and the form are tested before the number
form_then_fits : (k : NumberType) (p : Bool) (t : ℕ) (w : List ℕ) → der_form_tests k p t w ++ fits_tests k (integer_value w) ≡ der_reader_tests k p t w
form_then_fits (signed bits) p t w = refl
form_then_fits (unsigned bits) p t w = refl

sign_passed : (k : NumberType) (w : List ℕ) → NoneHolds (der_form_tests k false 2 w) → NoneHolds (sign_tests k w)
sign_passed (signed bits) w n = tt
sign_passed (unsigned bits) w n = (n.1.1.0, tt)

module _ {T : Type 0} (value : T → ℤ) (k : NumberType) (i : List ℕ) where
  pub der_number_read : (x : Bor (List ℕ) × T) (w : List ℕ) → ReadsDerInteger k i w x.0.now → NoneHolds (number_tests k (integer w)) → value x.1 ≡ integer_value w → AnswersDerNumber value k i (Ok x)
  der_number_read x w (c, b, m) n e =
      let fits = none_of_back (sign_tests k w) (fits_tests k (integer_value w)) n in
      let passes = subst NoneHolds (form_then_fits k false 2 w) (none_of_both (der_form_tests k false 2 w) (fits_tests k (integer_value w)) m fits) in
      exactly (Ok x) (der_numbers_one value k i) (λ n l m. m) (record { class = c; octets = w; element = b; passes = passes; value = e })

  pub der_number_refused : (e : BerError) (w rest : List ℕ) → ReadsDerInteger k i w rest → NumberRefuses k (integer w) (refusal e) → AnswersDerNumber value k i (Err (Error e))
  der_number_refused e w rest (c, b, m) r =
      let large = refused_of_back (sign_tests k w) (fits_tests k (integer_value w)) (refusal e) (sign_passed k w m) r in
      let shown = subst (λ ts. IsFirstRefusal ts (refusal e)) (form_then_fits k false 2 w) (refused_behind (der_form_tests k false 2 w) (fits_tests k (integer_value w)) (refusal e) m large) in
      exactly (Err (Error e)) (der_numbers_one value k i) (λ n l m. m) (inr (c, false, 2, w, rest, b, shown))

  pub der_number_unread : {T' : Type 0} (P : T' → Type 0) (e : Refused BerError) → MatchAnswer {T = T'} (Err e) P (DerIntegerRefuses k i) (DerAnyLacks i) ⊥ → AnswersDerNumber value k i (Err e)
  der_number_unread P e h = exactly (Err e) (der_numbers_one value k i) (λ n l m. m) (passed_on P (λ x. BeginsWithDerNumber k i (value x.1) x.0.now) e h (λ r q. shown r q) (λ n l. l) (λ m. m))
    where
      shown : (r : Refusal) → DerIntegerRefuses k i r → DerNumberRefuses k i r
      shown r (inl q) = inl q
      shown r (inr (c, p, t, w, rest, b, q)) =
          inr (c, p, t, w, rest, b, subst (λ ts. IsFirstRefusal ts r) (form_then_fits k p t w) (refused_in_front (der_form_tests k p t w) (fits_tests k (integer_value w)) r q))
