-- By DER: the element that begins the input, and what a container refuses.
use Rattle.std.proofs.Common.{◌≡◌, ℕ, ◌<◌, List, ◌++◌, length, Err, Bor, sym, ◌∙◌, arith}
use Rattle.der_base.specs.declared.error.Err.{Err as Refused}
use Rattle.der_base.specs.declared.error.Err.TheVariants.{Incomplete, Error, Failure, OutOfMemory}
use Rattle.der_base.specs.declared.error.Error.{Error as BerError}
use Rattle.der_base.specs.declared.error.ErrorKind.{ErrorKind}
use Rattle.der_base.specs.declared.error.Needed.TheVariants.{Unknown, Size}
use Rattle.der_base.specs.declared.header.Header.{Header}
use Rattle.der_base.specs.declared.header.Length.TheVariants.{Definite}
use Rattle.der_base.specs.declared.rules.Rules.TheVariants.{Der}
use Rattle.der_base.specs.Answer.{MatchAnswer}
use Rattle.der_base.specs.Errors.{MapsError}
use Rattle.der_base.specs.Fault.{DerHeaderRefuses}
use Rattle.der_base.specs.Headers.{ReadsDerHeader, DerHeaderLacks}
use Rattle.der_base.specs.Header.{IsHeader, class_of, is_constructed, number_of, length_of, raw_tag_of}
use Rattle.der_base.specs.Containers.{OpensDer, HasShortContent, Refuses, faulty, cut}
use Rattle.der_base.proofs.Headers.DerHeaders.{der_header_same, der_header_only}
use Rattle.der_base.proofs.Octets.Identifiers.{fronts_same}

-- the size of the header is the length of the content
pub opened_size : (i w after : List ℕ) (h : Header) (o : OpensDer i h w after) → o.0.size ≡ length w
opened_size i w after h (r, l) = let e : Definite r.size ≡ Definite (length w) = sym r.length ∙ l in cc

-- the input opens in one way
pub der_opens_same : (i w w' after after' : List ℕ) (h h' : Header) → OpensDer i h w after → OpensDer i h' w' after'
    → IsHeader h (class_of h') (is_constructed h') (number_of h') (length_of h') (raw_tag_of h') × (w ≡ w') × (after ≡ after')
der_opens_same i w w' after after' h h' o o' =
    let q = der_header_only i (w' ++ after') (w ++ after) (class_of h') (is_constructed h') (number_of h') o'.0.size h o'.0.begins o.0 in
    let s = der_header_same i (w ++ after) (w' ++ after') _ _ _ _ _ _ o.0.size o'.0.size o.0.begins o'.0.begins in
    let l : length w ≡ length w' = sym (opened_size i w after h o) ∙ s.length ∙ opened_size i w' after' h' o' in
    let f = fronts_same w w' after after' l q.1 in
    (record { class = q.0.class; constructed = q.0.constructed; number = q.0.number; length = q.0.length ∙ sym o'.0.length; raw_tag = q.0.raw_tag ∙ sym o'.0.raw_tag }, f.0, f.1)

-- a content is short by the header that is read
pub short_der_behind : (i v : List ℕ) (h : Header) (n : ℕ) → ReadsDerHeader i h v → length_of h ≡ Definite n → length v < n → HasShortContent Der i v
short_der_behind i v h n r l s =
    let e : Definite r.size ≡ Definite n = sym r.length ∙ l in
    let q : r.size ≡ n = cc in
    (class_of h, is_constructed h, number_of h, r.size, r.begins, omega (arith, q, s))

-- a refusal of the definition, as it is told in place of another error
pub converted_der : {E T : Type 0} (P : T → Type 0) (from_error_kind_gives : Bor (List ℕ) → ErrorKind → E → Type 0) (from_gives : BerError → E → Type 0) (i : List ℕ) (e : Refused BerError)
    (r : Refused E)
    → MatchAnswer (Err e) P (DerHeaderRefuses i) (DerHeaderLacks i) ⊥ → MapsError from_gives e r → Refuses Der from_error_kind_gives from_gives i r
converted_der P k g i (Error e) r h (x, q, m) = rw m (faulty h q)
converted_der P k g i (Incomplete (Size n)) r h m = rw m (cut h)
converted_der P k g i (Incomplete Unknown) r h m = absurd h
converted_der P k g i (Failure e) r h m = absurd h
converted_der P k g i OutOfMemory r h m = absurd h
