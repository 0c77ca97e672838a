-- Elements that are opened: by their headers, and one at most.
use Rattle.std.specs.Borrow.{Bor}
use Rattle.std.proofs.Common.{◌≡◌, ℕ, true, List, Option, Some, None, Err, take, refl, sym, ap, subst, ◌∙◌}
use Rattle.std.specs.Option.{option_map}
use Rattle.der_base.specs.declared.error.Err.{Err as Refused}
use Rattle.der_base.specs.declared.error.Err.TheVariants.{Incomplete, Error, Failure, OutOfMemory}
use Rattle.der_base.specs.declared.error.Error.{Error as BerError}
use Rattle.der_base.specs.declared.error.Needed.TheVariants.{Unknown, Size}
use Rattle.der_base.specs.declared.header.Class.{Class}
use Rattle.der_base.specs.declared.header.Class.TheVariants.{Universal}
use Rattle.der_base.specs.declared.header.Header.{Header}
use Rattle.der_base.specs.declared.header.Length.TheVariants.{Definite}
use Rattle.der_base.specs.Answer.{AnswersOkOr}
use Rattle.der_base.specs.Header.{class_of, is_constructed, number_of}
use Rattle.der_base.specs.Headers.{AnswersDerHeader, ReadsDerHeader}
use Rattle.der_base.proofs.Headers.DerHeaders.{der_header_same}
use Rattle.x509.specs.Partial.Openings.{Finds, HasHeader, Opens, OpensSequenceIn}

none_of : {T : Type 0} (P : T → Type 0) (e : Refused BerError) → AnswersOkOr ⊥ (Err e) P → ⊥
none_of P (Error x) h = h
none_of P (Incomplete (Size n)) h = h
none_of P (Incomplete Unknown) h = h
none_of P (Failure x) h = h
none_of P OutOfMemory h = h

-- where no header is read, nothing is opened
pub no_header : (c : Class) (t : ℕ) {i : List ℕ} {e : Refused BerError} → AnswersDerHeader i (Err e) → (w : List ℕ) → ¬ Opens c t i w
no_header c t {e = e} a w (n, rest, b, q) = none_of _ e (a.only (record { class = c; constructed = true; number = t; length = Definite n; rest = rest }) (n, refl, b))

-- where another header is read, nothing is opened
pub other_header : (c : Class) (t : ℕ) {i rest : List ℕ} {h : Header} → ReadsDerHeader i h rest → ¬ HasHeader h c t → (w : List ℕ) → ¬ Opens c t i w
other_header c t {i} {rest} {h} r other w (n, rest', b, q) =
    let s = der_header_same i rest rest' (class_of h) c (is_constructed h) true (number_of h) t r.size n r.begins b in other (s.class, s.constructed, s.number)

opens_one : (c : Class) (t : ℕ) (i w v : List ℕ) → Opens c t i w → Opens c t i v → w ≡ v
opens_one c t i w v (n, r, b, p) (m, q, d, e) =
    let s = der_header_same i r q c c true true t t n m b d in p ∙ ap (λ k. take k r) s.length ∙ ap (λ x. take m x) s.rest ∙ sym e

pub sequence_one : (c : Class) (t : ℕ) (i w v : List ℕ) → OpensSequenceIn c t i w → OpensSequenceIn c t i v → w ≡ v
sequence_one c t i w v (x, a, b) (y, d, e) = opens_one Universal 16 y w v (subst (λ z. Opens Universal 16 z w) (opens_one c t i x y a d) b) e

-- where the outer element isn't opened, the inner one isn't
pub none_outside : (c : Class) (t : ℕ) {i : List ℕ} → ((x : List ℕ) → ¬ Opens c t i x) → (w : List ℕ) → ¬ OpensSequenceIn c t i w
none_outside c t n w (y, b, d) = n y b

-- what is opened in it
pub inside_of : (c : Class) (t : ℕ) {i x : List ℕ} (o : Option (Bor (List ℕ))) → Opens c t i x → Finds (Opens Universal 16 x) (option_map (λ w. w.now) o)
    → Finds (OpensSequenceIn c t i) (option_map (λ w. w.now) o)
inside_of c t {i} {x} (Some w) a f = (x, a, f)
inside_of c t {i} {x} None a f = λ w s. f w (subst (λ z. Opens Universal 16 z w) (opens_one c t i s.0 x s.1 a) s.2)

-- what is found is one thing
pub finds_one : (P : List ℕ → Type 0) → ((w v : List ℕ) → P w → P v → w ≡ v) → (a b : Option (List ℕ)) → Finds P a → Finds P b → a ≡ b
finds_one P one (Some w) (Some v) p q = ap (λ z. Some z) (one w v p q)
finds_one P one (Some w) None p q = absurd (q w p)
finds_one P one None (Some v) p q = absurd (p v q)
finds_one P one None None p q = refl
