-- What the readers of both rules say of an element, and what follows of the whole input.
use Rattle.std.proofs.Common.{◌≡◌, ℕ, ◌+◌, ◌<◌, List, [], ◌∷◌, ◌++◌, Ok, Err, sym, subst, ap, length, None, arith}
use Rattle.std.specs.Borrow.{Bor}
use Rattle.der_parser.proofs.Answering.{answered, passed_on}
use Rattle.der_parser.specs.BerReading.{AnswersBer}
use Rattle.der_parser.specs.DerReading.{AnswersDer}
use Rattle.der_parser.specs.HeaderFacts.{form_of}
use Rattle.der_parser.specs.Readings.{Answer}
use Rattle.der_parser.specs.Tree.{Node}
use Rattle.der_parser.specs.declared.ber.BerObject.{BerObject}
use Rattle.der_parser.specs.declared.error.Err.TheVariants.{OutOfMemory}
use Rattle.der_parser.specs.declared.cursor.ReadError.{ReadError}
use Rattle.der_parser.specs.declared.error.Error.{Error as BerError}
use Rattle.der_parser.specs.declared.Rules.{Rules}
use Rattle.der_parser.specs.declared.Rules.TheVariants.{Ber, Der}
use Rattle.derdump.specs.Elements.{AnswersElement, AreElements, BeginsWith, Elements, none, one_more}
use Rattle.derdump.specs.Refused.{IsRefused, WantsMemory}

pub ber_element : {i : List ℕ} {r : Answer} → AnswersBer 50 i r → AnswersElement Ber i r
ber_element {r = r} a = record {
  found = answered _ _ r a.found (λ x q. (q.spelling, q.octets, (form_of x.1, q.spells))) (λ e q. q) (λ n q. q) (λ m. m);
  only = a.only;
  refuses = a.refuses;
  lacks = a.lacks;
}

pub der_element : {i : List ℕ} {r : Answer} → AnswersDer 50 i r → AnswersElement Der i r
der_element {r = r} a = record {
  found = answered _ _ r a.found (λ x q. (q.spelling, q.octets, q.spells)) (λ e q. q) (λ n q. q) (λ m. m);
  only = a.only;
  refuses = a.refuses;
  lacks = a.lacks;
}

-- an element behind elements
pub element_behind : {rules : Rules} {i rest after : List ℕ} {os : List Node} (o : Node) → Elements rules i os rest → BeginsWith rules rest o after → Elements rules i (os ++ o ∷ []) after
element_behind o none b = one_more b none
element_behind o (one_more b' bs) b = one_more b' (element_behind o bs b)

-- where the input is elements, so is what is left behind the first of them
pub elements_left : {rules : Rules} {i : List ℕ} (x : Bor (List ℕ) × BerObject) → AnswersElement rules i (Ok x) → length x.0.now < length i → AreElements rules i → AreElements rules x.0.now
elements_left x a shorter (os, none) = absurd (omega (arith, shorter))
elements_left {rules} x a shorter (os, one_more {after = after} {o = o} {os = more} b bs) = subst (AreElements rules) (sym (ap (λ v. v.1) (a.only (o, after) b))) (more, bs)

-- what holds where an element begins holds where there are elements, and some octets
at_first : {rules : Rules} {i : List ℕ} {P : Type 0} → ((o : Node) (after : List ℕ) → BeginsWith rules i o after → P) → 0 < length i → AreElements rules i → P
at_first f some (os, none) = absurd (omega (arith, some))
at_first f some (os, one_more {after = after} {o = o} b bs) = f o after b

-- a reader that answers no object refuses the element that begins there, or finds no memory for it
pub refused_here : {rules : Rules} {i rest : List ℕ} {os : List Node} (r : ReadError BerError) → Elements rules i os rest → r.offset + length rest ≡ length i
    → 0 < length rest → (AreElements rules i → AreElements rules rest) → AnswersElement rules rest (Err r.reason) → IsRefused rules i os r
refused_here {rules} {i} {rest} {os} r front place some whole a =
    let begins : (o : Node) (after : List ℕ) → BeginsWith rules rest o after → WantsMemory r =
    λ o after b. passed_on _ _ r.reason (a.only (o, after) b) (λ e q. q) (λ n q. q) (λ _. tt) in
    record {
      rest = rest;
      front = front;
      place = place;
      explains = passed_on _ _ r.reason a.found (λ e q. q) (λ n q. q) (λ _. tt);
      begins = begins;
      whole = λ all. at_first begins some (whole all);
    }

-- an element for which there was no memory
pub wanting_here : {rules : Rules} {i rest : List ℕ} {os : List Node} (n : ℕ) → Elements rules i os rest → n + length rest ≡ length i
    → IsRefused rules i os (record { offset = n; list_end = None; reason = OutOfMemory })
wanting_here {rest = rest} n front place = record {
  rest = rest;
  front = front;
  place = place;
  explains = tt;
  begins = λ _ _ _. tt;
  whole = λ _. tt;
}
