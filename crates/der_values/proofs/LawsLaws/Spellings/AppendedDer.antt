-- Octets appended to an input leave the refusal that it shows by DER, and only lengthen what is left behind a spelling.
use Rattle.std.proofs.Common.{ℕ, zero, suc, Bool, List, ◌++◌, sym, ap, ◌∙◌, inl, inr}
use Rattle.der_base.specs.declared.header.Class.TheVariants.{Universal}
use Rattle.der_base.specs.Encoding.{element}
use Rattle.der_base.specs.Fault.{DerLengthRefuses, DerHeaderRefuses, DerShowsFault}
use Rattle.der_base.specs.Laws.{AppendedLeaveFaults, AppendedLengthenRests}
use Rattle.der_base.specs.Spelling.{BeginsWithDer}
use Rattle.der_base.specs.Octets.{identifier, shortest_length}
use Rattle.der_base.specs.Refusal.{Refusal}
use Rattle.der_values.proofs.LawsLaws.Spellings.AppendedBer.{large_length_appended, header_appended}
use Rattle.der_values.proofs.LawsLaws.Spellings.DerWithinBer.{der_spelling_same}
use Rattle.der_base.proofs.Framing.RawLists.{tail_more}

der_length_appended : (p : Bool) (s z : List ℕ) (e : Refusal) → DerLengthRefuses s e → DerLengthRefuses (s ++ z) e
der_length_appended p s z e (inl ((r, d), q)) = inl ((r ++ z, ap (λ l. l ++ z) d), q)
der_length_appended p s z e (inr (inl (h, q))) = inr (inl (large_length_appended s z h, q))
der_length_appended p s z e (inr (inr (inl ((r, d), q)))) = inr (inr (inl ((r ++ z, ap (λ l. l ++ z) d), q)))
der_length_appended p s z e (inr (inr (inr ((l, r, n, d, k, longer), q)))) = inr (inr (inr ((l, r ++ z, n, tail_more l r s z d, k, longer), q)))

pub der_header_appended : (i z : List ℕ) (e : Refusal) → DerHeaderRefuses i e → DerHeaderRefuses (i ++ z) e
der_header_appended i z e h = header_appended (λ p. DerLengthRefuses) der_length_appended i z e h

-- what a content shows stands within its element, which is whole
pub der_shown_appended : AppendedLeaveFaults DerShowsFault
der_shown_appended zero i z e h = h
der_shown_appended (suc d) i z e (inl h) = inl (der_header_appended i z e h)
der_shown_appended (suc d) i z e (inr (inl (c, p, t, n, r, ht, q, hn, s, h))) =
    inr (inl (c, p, t, n, r ++ z, ht, tail_more (identifier c p t ++ shortest_length n) r i z q, hn, s, h))
der_shown_appended (suc d) i z e (inr (inr (p, t, w, rest, ht, q, s, m, h))) = inr (inr (p, t, w, rest ++ z, ht, tail_more (element Universal p t w) rest i z q, s, m, h))

pub der_spelled_appended : AppendedLengthenRests BeginsWithDer
der_spelled_appended d i z rest o (b, q, h) =
    let longer = tail_more b rest i z q in
    ((b, longer, h), (λ d' rest' o' (b', q', h'). let s = der_spelling_same b' b rest' (rest ++ z) o' o d' d h' h (sym q' ∙ longer) in (s.1, s.2)))
