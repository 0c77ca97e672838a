-- An object that begins the input, and an input that is cut short: one of them holds at most, and each in one way.
use Rattle.std.proofs.Common.{ℕ, ◌≤◌, Bool, true, List, ◌++◌, length, sym, ap, ◌∙◌, arith, append_assoc, inl}
use Rattle.der_base.specs.declared.header.Class.{Class}
use Rattle.der_base.specs.declared.header.Class.TheVariants.{Universal}
use Rattle.der_base.specs.Cut.{IsCut}
use Rattle.der_base.specs.Headers.{BeginsWithDerHeader}
use Rattle.der_base.specs.Octets.{identifier, shortest_length}
use Rattle.der_base.specs.Spelling.{BeginsWithDer}
use Rattle.der_base.specs.Stable.{DerIsCut}
use Rattle.der_base.proofs.Framing.Shapes.{cut_is_none}
use Rattle.der_base.proofs.Octets.ShortestLengths.{shortest_spells}
use Rattle.der_values.proofs.LawsLaws.Spellings.DerFaults.{spelled_shows_nothing, shows_one}
use Rattle.der_base.proofs.Answers.Exactness.{ShowsOne}
use Rattle.der_base.specs.Fault.{DerShowsFault}
use Rattle.der_values.proofs.LawsLaws.Spellings.DerReadings.{spelled_same, spelled_not_cut, cut_same}
use Rattle.der_object.specs.Readings.{value_of}
use Rattle.der_readers.specs.Der.DerReading.{NeedsMemory, ReadsDer}

-- an element whose content octets are all there is not cut short
whole_not_cut : (i : List ℕ) (c : Class) (p : Bool) (t : ℕ) (w rest : List ℕ)
    → BeginsWithDerHeader i c p t (length w) (w ++ rest) → IsCut i → ⊥
whole_not_cut i c p t w rest b k =
    let s = shortest_length (length w) in
    let one : 1 ≤ 1 = omega arith in
    let octets = b.octets ∙ sym (append_assoc (identifier c p t ++ s) w rest) in
    cut_is_none i 1 c p t w rest k (b.number, one, inl (s, shortest_spells (length w) b.length, octets))

-- an input that is cut short begins with no whole list, so it wants no memory
pub cut_needs_none : (d : ℕ) (i : List ℕ) (n : ℕ) → DerIsCut d i n → NeedsMemory d i → ⊥
cut_needs_none d i n k (two, (t, w, rest, list, some, b)) = whole_not_cut i Universal true t w rest b k.0

-- of an object, a refusal and a cut, an input shows one at most
pub der_shows_one : (d : ℕ) (i : List ℕ) → ShowsOne value_of (λ x. ReadsDer d i x.1 x.0.now) (λ v. BeginsWithDer d i v.0 v.1) (DerShowsFault d i) (DerIsCut d i)
der_shows_one d i = record {
  spelled = λ x r. (r.spelling, r.octets, r.spells);
  one_value = λ x v r s. (let z = spelled_same d i r.spelling s.0 x.0.now v.1 (value_of x).0 v.0 r.octets r.spells s.1 s.2 in ap (λ o. (o, x.0.now)) z.0 ∙ ap (λ w. (v.0, w)) z.1);
  one_refusal = λ e e' r r'. shows_one d i e e' r r';
  one_lack = λ n n' h h'. cut_same d i n n' h h';
  not_refused = λ v e s r. spelled_shows_nothing d i s.0 v.1 v.0 e s.1 s.2 r;
  not_lacking = λ v n s h. spelled_not_cut d i s.0 v.1 v.0 n s.1 s.2 h;
  not_both = λ e n r h. h.2 e r;
}
