-- What a reader of headers finds of one element.
use Rattle.std.proofs.Common.{◌≡◌, ℕ, List, length, Err, sym, ap, subst, ◌∙◌}
use Rattle.std.specs.Borrow.{Bor}
use Rattle.der_base.specs.declared.error.Err.{Err as Refused}
use Rattle.der_base.specs.declared.error.Err.TheVariants.{Incomplete, Error, Failure, OutOfMemory}
use Rattle.der_base.specs.declared.error.Error.{Error as BerError}
use Rattle.der_base.specs.declared.error.Needed.TheVariants.{Unknown, Size}
use Rattle.der_base.specs.declared.header.Header.{Header}
use Rattle.der_base.specs.declared.header.Length.TheVariants.{Definite}
use Rattle.der_base.specs.Answer.{AnswersOkOr}
use Rattle.der_base.specs.Header.{class_of, is_constructed, length_of, number_of}
use Rattle.der_base.specs.Headers.{BeginsWithHeader, LeadingHeader, ReadsHeader, leading_header}
use Rattle.der_input.specs.Forms.{IsOneElement}

pub is_one : (i : List ℕ) (content : Bor (List ℕ)) (h : Header) → ReadsHeader i h content.now → length_of h ≡ Definite (length content.now) → IsOneElement i
is_one i content h reads e =
    (class_of h, is_constructed h, number_of h, content.now, subst (λ l. BeginsWithHeader i (class_of h) (is_constructed h) (number_of h) l content.now) e reads.begins)

-- its header and what follows it
abbrev pub header_of : (i : List ℕ) → IsOneElement i → LeadingHeader
header_of i one = record { class = one.0; constructed = one.1; number = one.2; length = Definite (length one.3); rest = one.3 }

pub only_length : (i : List ℕ) (content : Bor (List ℕ)) (h : Header) (one : IsOneElement i) → leading_header (content, h) ≡ header_of i one
    → length_of h ≡ Definite (length content.now)
only_length i content h one same = ap (λ u. u.length) same ∙ ap (λ w. Definite (length w)) (sym (ap (λ u. u.rest) same))

pub not_refused : {T : Type 0} (e : Refused BerError) (P : T → Type 0) → AnswersOkOr ⊥ (Err e) P → ⊥
not_refused (Error x) P h = h
not_refused (Incomplete (Size n)) P h = h
not_refused (Incomplete Unknown) P h = h
not_refused (Failure x) P h = h
not_refused OutOfMemory P h = h
