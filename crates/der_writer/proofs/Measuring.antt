-- The size of the element that octets begin with.
use Rattle.std.proofs.Common.{◌≡◌, ℕ, ◌+◌, ◌-◌, ◌^◌, ◌<◌, List, ◌++◌, length, ap, ◌∙◌, arith, append_assoc, length-append, Ok, Err}
use Rattle.std.specs.Borrow.{Bor}
use Rattle.der_base.specs.declared.any.Any.{Any}
use Rattle.der_base.specs.declared.error.Err.{Err as Refused}
use Rattle.der_base.specs.declared.error.Err.TheVariants.{Incomplete, Error, Failure, OutOfMemory}
use Rattle.der_base.specs.declared.error.Error.{Error as BerError}
use Rattle.der_base.specs.declared.error.Needed.TheVariants.{Unknown, Size}
use Rattle.der_base.specs.declared.header.Class.{Class}
use Rattle.der_base.specs.Answer.{AnswersOkOr}
use Rattle.der_base.specs.Any.{AnswersDerAny, LeadingElement, SpellsDerAny}
use Rattle.der_base.specs.Encoding.{element}
use Rattle.der_base.specs.Header.{class_of, is_constructed, number_of}
use Rattle.der_base.specs.Octets.{identifier, shortest_length}
use Rattle.der_writer.specs.Inner.Sorting.{Measures}
use Rattle.der_writer.proofs.Headers.{length_some}

spelled : (i : List ℕ) (c : Class) (p : _) (t : ℕ) (w rest : List ℕ) → t < 2 ^ 32 → length i < 2 ^ 63 → i ≡ element c p t w ++ rest
    → SpellsDerAny i (record { class = c; constructed = p; number = t; content = w; rest = rest })
spelled i c p t w rest small few e =
    let front = identifier c p t ++ shortest_length (length w) in
    record {
      octets = e ∙ append_assoc front w rest;
      number = small;
      length = omega (arith, few, ap length e, length-append (front ++ w) rest, length-append front w);
    }

-- what was read
pub measured : (i : List ℕ) (x : Bor (List ℕ) × Any) → length i < 2 ^ 63 → AnswersDerAny i (Ok x) → Measures i (length i - length x.0.now)
measured i x few h =
    let b = h.found.begins in
    let front = identifier (class_of x.1.header) (is_constructed x.1.header) (number_of x.1.header) in
    let size = shortest_length (length x.1.bytes.now) in
    let all : length i ≡ length front + length size + length x.1.bytes.now + length x.0.now =
    omega (arith, ap length b.octets, length-append (front ++ size) (x.1.bytes.now ++ x.0.now), length-append front size, length-append x.1.bytes.now x.0.now) in
    record {
      some = λ some. omega (arith, all, length_some (length x.1.bytes.now));
      within = omega arith;
      exact = λ s rest (c, p, t, w, small, own) e.
          let octets : i ≡ element c p t w ++ rest = e ∙ ap (λ l. l ++ rest) own in
          let left : x.0.now ≡ rest = ap (λ (v : LeadingElement). v.rest) (h.only (record { class = c; constructed = p; number = t; content = w; rest = rest }) (spelled i c p t w rest small few octets)) in
          omega (arith, ap length left, ap length e, length-append s rest);
    }

no_error : {T : Type 0} (P : T → Type 0) (e : Refused BerError) → AnswersOkOr ⊥ (Err e) P → ⊥
no_error P (Error e) h = h
no_error P (Incomplete (Size n)) h = h
no_error P (Incomplete Unknown) h = h
no_error P (Failure e) h = h
no_error P OutOfMemory h = h

-- what was refused
pub refused : (i : List ℕ) (e : Refused BerError) → length i < 2 ^ 63 → AnswersDerAny i (Err e) → Measures i (length i)
refused i e few h = record {
  some = λ some. some;
  within = omega arith;
  exact = λ s rest (c, p, t, w, small, own) same.
      absurd (no_error _ e (h.only (record { class = c; constructed = p; number = t; content = w; rest = rest }) (spelled i c p t w rest small few (same ∙ ap (λ l. l ++ rest) own))));
}
