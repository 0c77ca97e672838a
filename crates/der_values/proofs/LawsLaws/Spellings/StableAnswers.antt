-- What a reader answers stays, whatever octets follow.
use Rattle.std.proofs.Common.{ℕ, List, Result, sym, subst, ◌∙◌}
use Rattle.std.proofs.lemmas.List.{append_cancel_right}
use Rattle.der_base.specs.declared.error.Err.{Err as Refused}
use Rattle.der_base.specs.declared.error.Error.{Error as BerError}
use Rattle.der_base.specs.Exactly.{AnswersExactly}
use Rattle.der_base.specs.Fault.{ShowsFault, DerShowsFault}
use Rattle.der_base.specs.Refusal.{Refusal}
use Rattle.der_base.specs.Spelling.{BeginsWithBer, BeginsWithDer, BerSpells, DerSpells, framing_budget}
use Rattle.der_base.specs.Stable.{BerIsCut, DerIsCut, FaultStays, RestLengthens, SpellingStays, AnswerStays}
use Rattle.der_base.specs.Tree.{Node}
use Rattle.der_base.proofs.Answers.Answering.{answered}
use Rattle.der_values.proofs.LawsLaws.Spellings.AppendedBer.{shown_appended, spelled_appended}
use Rattle.der_values.proofs.LawsLaws.Spellings.AppendedDer.{der_shown_appended, der_spelled_appended}
use Rattle.der_values.proofs.LawsLaws.Spellings.FrontsAreCut.{ber_fronts_are_cut, der_fronts_are_cut}

-- refusals

pub ber_fault_stays : (d : ℕ) (i : List ℕ) (e : Refusal) → ShowsFault d i e → FaultStays ShowsFault d i e
ber_fault_stays d i e h z = shown_appended d i z e h

pub der_fault_stays : (d : ℕ) (i : List ℕ) (e : Refusal) → DerShowsFault d i e → FaultStays DerShowsFault d i e
der_fault_stays d i e h z = der_shown_appended d i z e h

-- spellings

pub ber_rest_lengthens : (d : ℕ) (i : List ℕ) (o : Node) (rest : List ℕ) → BeginsWithBer d i o rest → RestLengthens BeginsWithBer d i o rest
ber_rest_lengthens d i o rest h z = (spelled_appended d i z rest o h).0

pub der_rest_lengthens : (d : ℕ) (i : List ℕ) (o : Node) (rest : List ℕ) → BeginsWithDer d i o rest → RestLengthens BeginsWithDer d i o rest
der_rest_lengthens d i o rest h z = (der_spelled_appended d i z rest o h).0

pub ber_spelling_stays : (d : ℕ) (i : List ℕ) (o : Node) (rest : List ℕ) → BeginsWithBer d i o rest → SpellingStays BeginsWithBer BerIsCut d i o rest
ber_spelling_stays d i o rest (b, e, h) = record {
  longer = ber_rest_lengthens d i o rest (b, e, h);
  fronts = λ b' e'. ber_fronts_are_cut d b' o (subst (λ l. BerSpells l o d framing_budget) (append_cancel_right b b' rest (sym e ∙ e')) h);
}

pub der_spelling_stays : (d : ℕ) (i : List ℕ) (o : Node) (rest : List ℕ) → BeginsWithDer d i o rest → SpellingStays BeginsWithDer DerIsCut d i o rest
der_spelling_stays d i o rest (b, e, h) = record {
  longer = der_rest_lengthens d i o rest (b, e, h);
  fronts = λ b' e'. der_fronts_are_cut d b' o (subst (λ l. DerSpells l o d) (append_cancel_right b b' rest (sym e ∙ e')) h);
}

-- the answer of a reader that answers exactly what the input shows

pub ber_answer_stays : {T : Type 0} {value : T → Node × List ℕ} {Reads : T → Type 0} {Lacks : ℕ → Type 0} {M C : Type 0} (d : ℕ) (i : List ℕ) (r : Result T (Refused BerError))
    → ((x : T) → Reads x → BeginsWithBer d i (value x).0 (value x).1) → AnswersExactly r value Reads (λ v. BeginsWithBer d i v.0 v.1) (ShowsFault d i) Lacks M C
    → AnswerStays r value BeginsWithBer ShowsFault BerIsCut d i
ber_answer_stays {value = value} {Reads = Reads} d i r read h =
    answered Reads (λ x. SpellingStays BeginsWithBer BerIsCut d i (value x).0 (value x).1) r h.found (λ x p. ber_spelling_stays d i (value x).0 (value x).1 (read x p)) (ber_fault_stays d i)
    (λ n l. tt) (λ m. tt)

pub der_answer_stays : {T : Type 0} {value : T → Node × List ℕ} {Reads : T → Type 0} {Lacks : ℕ → Type 0} {M C : Type 0} (d : ℕ) (i : List ℕ) (r : Result T (Refused BerError))
    → ((x : T) → Reads x → BeginsWithDer d i (value x).0 (value x).1) → AnswersExactly r value Reads (λ v. BeginsWithDer d i v.0 v.1) (DerShowsFault d i) Lacks M C
    → AnswerStays r value BeginsWithDer DerShowsFault DerIsCut d i
der_answer_stays {value = value} {Reads = Reads} d i r read h =
    answered Reads (λ x. SpellingStays BeginsWithDer DerIsCut d i (value x).0 (value x).1) r h.found (λ x p. der_spelling_stays d i (value x).0 (value x).1 (read x p)) (der_fault_stays d i)
    (λ n l. tt) (λ m. tt)
