-- Octets appended to an input leave the refusal that it shows by BER, and only lengthen what is left behind a spelling.
use Rattle.std.proofs.Common.{ℕ, zero, suc, Bool, true, List, ◌∷◌, ◌++◌, sym, ap, ◌∙◌, inl, inr}
use Rattle.der_base.specs.declared.header.Class.{Class}
use Rattle.der_base.specs.Fault.{HasBadTag, HasIdentifier, HasLargeLength, BerLengthRefuses, BerHeaderRefuses, HasHeader, InsideRefuses, at_header, too_deep, further_in, ShowsFault}
use Rattle.der_base.specs.Laws.{AppendedLeaveFaults, AppendedLengthenRests}
use Rattle.der_base.specs.Octets.{identifier}
use Rattle.der_base.specs.Refusal.{Refusal}
use Rattle.der_base.specs.Spelling.{BeginsWithBer, BeginsWithElement, end_marker}
use Rattle.der_values.proofs.LawsLaws.Spellings.BerFaults.{spelling_same}
use Rattle.der_base.proofs.Framing.RawLists.{tail_more}
use Rattle.der_base.proofs.Headers.HeaderLaws.{Shows}

-- headers

bad_tag_appended : (i z : List ℕ) → HasBadTag i → HasBadTag (i ++ z)
bad_tag_appended i z (a, b, bs, r, e, long, more, wrong) = (a, b, bs, r ++ z, tail_more (a ∷ bs) (b ∷ r) i z e, long, more, wrong)

identifier_appended : (i z : List ℕ) (p : Bool) (s : List ℕ) → HasIdentifier i p s → HasIdentifier (i ++ z) p (s ++ z)
identifier_appended i z p s (c, t, ht, e) = (c, t, ht, tail_more (identifier c p t) s i z e)

pub large_length_appended : (s z : List ℕ) → HasLargeLength s → HasLargeLength (s ++ z)
large_length_appended s z (b, bs, r, e, above, below, count, large) = (b, bs, r ++ z, tail_more (b ∷ bs) r s z e, above, below, count, large)

-- a header's refusals stay where those of its length octets do
pub header_appended : (Refuses : Bool → List ℕ → Refusal → Type 0) → ((p : Bool) (s z : List ℕ) (e : Refusal) → Refuses p s e → Refuses p (s ++ z) e)
    → (i z : List ℕ) (e : Refusal) → Shows Refuses i e → Shows Refuses (i ++ z) e
header_appended Refuses f i z e (inl (b, q)) = inl (bad_tag_appended i z b, q)
header_appended Refuses f i z e (inr (p, s, h, r)) = inr (p, s ++ z, identifier_appended i z p s h, f p s z e r)

ber_length_appended : (p : Bool) (s z : List ℕ) (e : Refusal) → BerLengthRefuses p s e → BerLengthRefuses p (s ++ z) e
ber_length_appended p s z e (inl ((r, d), q)) = inl ((r ++ z, ap (λ l. l ++ z) d), q)
ber_length_appended p s z e (inr (inl (h, q))) = inr (inl (large_length_appended s z h, q))
ber_length_appended p s z e (inr (inr ((r, d), h, q))) = inr (inr ((r ++ z, ap (λ l. l ++ z) d), h, q))

pub ber_header_appended : (i z : List ℕ) (e : Refusal) → BerHeaderRefuses i e → BerHeaderRefuses (i ++ z) e
ber_header_appended i z e h = header_appended BerLengthRefuses ber_length_appended i z e h

whole_header_appended : (i z : List ℕ) → HasHeader i → HasHeader (i ++ z)
whole_header_appended i z (p, s, h, inl (l, r, n, d, k)) = (p, s ++ z, identifier_appended i z p s h, inl (l, r ++ z, n, tail_more l r s z d, k))
whole_header_appended i z (p, s, h, inr (q, r, d)) = (p, s ++ z, identifier_appended i z p s h, inr (q, r ++ z, ap (λ l. l ++ z) d))

-- framing

pub inside_appended : {v : List ℕ} {k : ℕ} {e : Refusal} (z : List ℕ) → InsideRefuses v k e → InsideRefuses (v ++ z) k e
inside_appended z (at_header {v = v} {e = e} u rest hk d hu h) = at_header u (rest ++ z) hk (tail_more u rest v z d) hu (ber_header_appended rest z e h)
inside_appended z (too_deep {v = v} hk h) = too_deep hk (whole_header_appended v z h)
inside_appended z (further_in {v = v} u c t rest hk ht d hu h) =
    further_in u c t (rest ++ z) hk ht (tail_more (u ++ identifier c true t) (128 ∷ rest) v z d) hu (inside_appended z h)

pub element_appended : (i z : List ℕ) (k : ℕ) (c : Class) (p : Bool) (t : ℕ) (w rest : List ℕ) → BeginsWithElement i k c p t w rest → BeginsWithElement (i ++ z) k c p t w (rest ++ z)
element_appended i z k c p t w rest (ht, hk, inl (s, l, d)) = (ht, hk, inl (s, l, tail_more (identifier c p t ++ s ++ w) rest i z d))
element_appended i z k c p t w rest (ht, hk, inr (q, h2, hw, d)) = (ht, hk, inr (q, h2, hw, tail_more (identifier c p t ++ 128 ∷ w ++ end_marker) rest i z d))

-- what a content shows stands within its element, which is whole

pub shown_appended : AppendedLeaveFaults ShowsFault
shown_appended zero i z e h = h
shown_appended (suc d) i z e (inl h) = inl (ber_header_appended i z e h)
shown_appended (suc d) i z e (inr (inl (c, t, v, ht, q, h))) = inr (inl (c, t, v ++ z, ht, tail_more (identifier c true t) (128 ∷ v) i z q, inside_appended z h))
shown_appended (suc d) i z e (inr (inr (p, t, w, rest, g, m, h))) = inr (inr (p, t, w, rest ++ z, element_appended i z _ _ p t w rest g, m, h))

-- spellings

pub spelled_appended : AppendedLengthenRests BeginsWithBer
spelled_appended d i z rest o (b, q, h) =
    let longer = tail_more b rest i z q in
    ((b, longer, h), (λ d' rest' o' (b', q', h'). let s = spelling_same b' b rest' (rest ++ z) o' o d' d h' h (sym q' ∙ longer) in (s.1, s.2)))
