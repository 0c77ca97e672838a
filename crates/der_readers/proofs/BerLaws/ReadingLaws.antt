-- An object that begins the input, a refusal, and an input that is cut short: one of them holds at most, and each in one way.
use Rattle.std.proofs.Common.{ℕ, true, List, ap, ◌∙◌, inl, inr}
use Rattle.der_base.specs.declared.header.Class.TheVariants.{Universal}
use Rattle.der_base.specs.Spelling.{BeginsWithBer, framing_budget}
use Rattle.der_values.proofs.LawsLaws.Spellings.BerFaults as faults
use Rattle.der_base.proofs.Framing.FramingLaws.{begins_not_cut}
use Rattle.der_base.proofs.Answers.Exactness.{ShowsOne}
use Rattle.der_base.specs.Fault.{ShowsFault}
use Rattle.der_values.proofs.LawsLaws.Spellings.BerReadings.{spelled_same, spelled_not_cut, cut_same}
use Rattle.der_object.specs.HeaderFacts.{form_of}
use Rattle.der_object.specs.Readings.{value_of}
use Rattle.der_base.specs.Stable.{BerIsCut}
use Rattle.der_readers.specs.Ber.BerReading.{FramingNeedsMemory, NeedsMemory, ReadsBer}

-- a cut input is no whole list: it wants memory for what framing keeps alone
pub cut_needs : (d : ℕ) (i : List ℕ) (n : ℕ) → BerIsCut d i n → NeedsMemory d i → FramingNeedsMemory d i
cut_needs d i n k (inl (two, (t, (w, rest, list, some, b)))) = absurd (begins_not_cut i framing_budget Universal true t w rest b k.0)
cut_needs d i n k (inr m) = m

-- of an object, a refusal and a cut, an input shows one at most
pub ber_shows_one : (d : ℕ) (i : List ℕ) → ShowsOne value_of (λ x. ReadsBer d i x.1 x.0.now) (λ v. BeginsWithBer d i v.0 v.1) (ShowsFault d i) (BerIsCut d i)
ber_shows_one d i = record {
  spelled = λ x r. (r.spelling, r.octets, (form_of x.1, r.spells));
  one_value = λ x v r s. (let z = spelled_same d i r.spelling s.0 x.0.now v.1 (value_of x).0 v.0 r.octets (form_of x.1, r.spells) s.1 s.2 in ap (λ o. (o, x.0.now)) z.0 ∙ ap (λ w. (v.0, w)) z.1);
  one_refusal = λ e e' r r'. faults.shows_one d i e e' r r';
  one_lack = λ n n' h h'. cut_same d i n n' h h';
  not_refused = λ v e s r. faults.spelled_shows_nothing d i s.0 v.1 v.0 e s.1 s.2 r;
  not_lacking = λ v n s h. spelled_not_cut d i s.0 v.1 v.0 n s.1 s.2 h;
  not_both = λ e n r h. h.2 e r;
}
