-- By BER: the element that begins the input, and what a container refuses.
use Rattle.std.proofs.Common.{◌≡◌, ℕ, ◌-◌, ◌<◌, Bool, List, length, Err, Bor, sym, subst, ◌∙◌, arith}
use Rattle.der_base.specs.declared.error.Err.{Err as Refused}
use Rattle.der_base.specs.declared.error.Err.TheVariants.{Incomplete, Error, Failure, OutOfMemory}
use Rattle.der_base.specs.declared.error.Error.{Error as BerError}
use Rattle.der_base.specs.declared.error.ErrorKind.{ErrorKind}
use Rattle.der_base.specs.declared.error.Needed.TheVariants.{Unknown, Size}
use Rattle.der_base.specs.declared.header.Class.{Class}
use Rattle.der_base.specs.declared.header.Header.{Header}
use Rattle.der_base.specs.declared.header.Length.TheVariants.{Definite}
use Rattle.der_base.specs.declared.rules.Rules.TheVariants.{Ber}
use Rattle.der_base.specs.Answer.{MatchAnswer}
use Rattle.der_base.specs.Any.{AnyRefuses, AnyLacks}
use Rattle.der_base.specs.Errors.{MapsError}
use Rattle.der_base.specs.Headers.{ReadsHeader}
use Rattle.der_base.specs.Header.{IsHeader, class_of, is_constructed, number_of, length_of, raw_tag_of}
use Rattle.der_base.specs.Containers.{OpensBer, HasShortContent, Refuses, faulty, cut}
use Rattle.der_base.specs.Spelling.{BeginsWithElement, framing_budget}
use Rattle.der_base.proofs.Headers.BerHeaders.{ber_header_only}
use Rattle.der_base.proofs.Framing.UniqueSpelling.{begins_same}
use Rattle.der_base.proofs.Framing.FramingAny.{any_lacks_content}
use Rattle.der_base.proofs.Framing.FramingLaws.{begins_not_cut}

-- the input opens in one way
pub ber_opens_same : (i w w' after after' : List ℕ) (h h' : Header) → OpensBer i h w after → OpensBer i h' w' after'
    → IsHeader h (class_of h') (is_constructed h') (number_of h') (length_of h') (raw_tag_of h') × (w ≡ w') × (after ≡ after')
ber_opens_same i w w' after after' h h' o o' =
    let s = begins_same i framing_budget framing_budget _ _ _ _ _ _ w w' after after' o.element o'.element in
    let q = (ber_header_only i o'.behind o.behind _ _ _ _ h o'.header.begins o.header).0 in
    (record { class = q.class; constructed = q.constructed; number = q.number; length = q.length; raw_tag = q.raw_tag ∙ sym o'.header.raw_tag }, s.3, s.4)

-- an input whose content is short is cut, and shows no fault
pub short_lacks : (i behind : List ℕ) → HasShortContent Ber i behind → (n : ℕ) × AnyLacks i n
short_lacks i behind (c, p, t, m, h, l) = let n = m - length behind in (n, any_lacks_content i behind c p t (Definite m) n h (omega (arith, l), omega (arith, l)))

-- a content is short by the header that is read
pub short_behind : (i v v' : List ℕ) (h : Header) → ReadsHeader i h v → HasShortContent Ber i v' → (n : ℕ) × (length_of h ≡ Definite n) × (v ≡ v') × (length v < n)
short_behind i v v' h r (c, p, t, n, b, l) =
    let q = ber_header_only i v' v c p t (Definite n) h b r in
    (n, q.0.length, q.1, subst (λ x. length x < n) (sym q.1) l)

-- an element is no short content
pub begins_not_short : (i : List ℕ) (c : Class) (p : Bool) (t : ℕ) (w rest behind : List ℕ) → BeginsWithElement i framing_budget c p t w rest → HasShortContent Ber i behind → ⊥
begins_not_short i c p t w rest behind b s = begins_not_cut i framing_budget c p t w rest b (short_lacks i behind s).1.0

-- a refusal of the definition, as it is told in place of another error
pub converted : {E T : Type 0} (P : T → Type 0) (from_error_kind_gives : Bor (List ℕ) → ErrorKind → E → Type 0) (from_gives : BerError → E → Type 0) (i : List ℕ) (e : Refused BerError) (r : Refused E)
    → MatchAnswer (Err e) P (AnyRefuses i) (AnyLacks i) ⊥ → ((behind : List ℕ) → ¬ HasShortContent Ber i behind) → MapsError from_gives e r → Refuses Ber from_error_kind_gives from_gives i r
converted P k g i (Error e) r h s (x, q, m) = rw m (faulty h q)
converted P k g i (Incomplete (Size n)) r h s m = rw m (cut (h, s))
converted P k g i (Incomplete Unknown) r h s m = absurd h
converted P k g i (Failure e) r h s m = absurd h
converted P k g i OutOfMemory r h s m = absurd h
