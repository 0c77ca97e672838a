-- An element whose content isn't read, by BER: from its header and the framing of its content.
use Rattle.std.proofs.Common.{◌≡◌, ℕ, Bool, true, List, sym, subst, arith, inl, inr}
use Rattle.der_base.specs.declared.any.Any.{Any}
use Rattle.der_base.specs.declared.header.Class.{Class}
use Rattle.der_base.specs.declared.header.Length.{Length}
use Rattle.der_base.specs.declared.header.Length.TheVariants.{Definite, Indefinite}
use Rattle.der_base.specs.Any.{ReadsAny, AnyRefuses, AnyLacks}
use Rattle.der_base.specs.Content.{BeginsWithContent, ContentRefuses, ContentLacks}
use Rattle.der_base.specs.Fault.{InsideRefuses}
use Rattle.der_base.specs.Header.{class_of, is_constructed, number_of, length_of}
use Rattle.der_base.specs.Headers.{BeginsWithHeader, ReadsHeader, BerHeaderLacks}
use Rattle.der_base.specs.Refusal.{Refusal}
use Rattle.der_base.specs.Spelling.{BeginsWithElement, framing_budget}
use Rattle.der_base.proofs.Headers.BerHeaders.{ber_header_same, ber_header_not_refused, ber_header_not_lacking}
use Rattle.der_base.proofs.Framing.FramingCuts.{header_cut, content_cut, open_cut}
use Rattle.der_base.proofs.Framing.FramingLaws.{open_header, framed_begins}
use Rattle.der_base.proofs.Framing.FramingLists.{indefinite_header, element_from}

-- what a header and its content say

pub any_read : (i behind rest : List ℕ) (a : Any) → ReadsHeader i a.header behind → BeginsWithContent behind (length_of a.header) framing_budget a.bytes.now rest → ReadsAny i a rest
any_read i behind rest a h g =
    let x = a.header in
    let b = element_from i behind a.bytes.now rest framing_budget (class_of x) (is_constructed x) (number_of x) (length_of x) (omega arith) h.begins g in
    record {
      element = subst (λ v. BeginsWithElement v framing_budget (class_of x) (is_constructed x) (number_of x) a.bytes.now rest) (sym b.2) (framed_begins rest b.1);
      behind = behind;
      header = h;
    }

pub any_refused : (i behind : List ℕ) (c : Class) (p : Bool) (t : ℕ) (l : Length) (e : Refusal) → BeginsWithHeader i c p t l behind → ContentRefuses behind l framing_budget e → AnyRefuses i e
any_refused i behind c p t (Definite n) e h r = absurd r
any_refused i behind c p t Indefinite e h r = inr (c, t, behind, h.number, (indefinite_header i behind c p t h), r)

pub any_lacks_header : (i : List ℕ) (n : ℕ) → BerHeaderLacks i n → AnyLacks i n
any_lacks_header i n h = let q = header_cut h.1 in (q.0, q.1, (λ e r. refused e r))
  where
    refused : (e : Refusal) → AnyRefuses i e → ⊥
    refused e (inl r) = h.2 e r
    refused e (inr (c, t, v, ht, d, r)) = ber_header_not_lacking i v c true t Indefinite n (open_header i v c t ht d) h.1

-- a refusal of an element of indefinite length shows behind its header
behind_open : (i behind : List ℕ) (c : Class) (p : Bool) (t : ℕ) (l : Length) (e : Refusal) → BeginsWithHeader i c p t l behind → AnyRefuses i e
    → (l ≡ Indefinite) × InsideRefuses behind framing_budget e
behind_open i behind c p t l e h (inl r) = absurd (ber_header_not_refused i behind c p t l e h r)
behind_open i behind c p t l e h (inr (c', t', v, ht, d, r)) =
    let s = ber_header_same i behind v c c' p true t t' l Indefinite h (open_header i v c' t' ht d) in
    (s.length, subst (λ x. InsideRefuses x framing_budget e) (sym s.rest) r)

pub any_lacks_content : (i behind : List ℕ) (c : Class) (p : Bool) (t : ℕ) (l : Length) (n : ℕ) → BeginsWithHeader i c p t l behind → ContentLacks behind l framing_budget n → AnyLacks i n
any_lacks_content i behind c p t (Definite m) n h (h1, z) =
    let q = content_cut i behind c p t m n h h1 z in
    (q.0, q.1, (λ e r. let d = (behind_open i behind c p t (Definite m) e h r).0 in cc))
any_lacks_content i behind c p t Indefinite n h inside =
    let q = open_cut i behind c t framing_budget n (indefinite_header i behind c p t h) inside in
    (q.0, q.1, (λ e r. inside.not_refused e (behind_open i behind c p t Indefinite e h r).1))
