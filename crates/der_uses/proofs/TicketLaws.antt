-- Values that parsers of their own read from a cursor.
use Rattle.std.proofs.Common.{◌≡◌, ℕ, pos, List, Result, Ok, Err, Bor, sym, ap, subst, ◌∙◌, inl, inr}
use Rattle.der_parser.specs.declared.error.Error.{Error as BerError}
use Rattle.der_parser.specs.declared.error.Error.TheVariants.{NomError}
use Rattle.der_parser.specs.declared.error.ErrorKind.{ErrorKind}
use Rattle.der_parser.specs.declared.Rules.TheVariants.{Der}
use Rattle.der_parser.specs.declared.ber.Any.{Any}
use Rattle.der_parser.specs.declared.cursor.Cursor.{Cursor}
use Rattle.der_parser.specs.declared.cursor.ReadError.{ReadError}
use Rattle.der_parser.specs.Any.{AnswersDerAny}
use Rattle.der_parser.specs.Containers.{Answered}
use Rattle.der_parser.specs.Cursors.{IsLast, Reads, ReadsLast, advanced, octets_left}
use Rattle.der_parser.specs.Elements.{element_of}
use Rattle.der_parser.specs.Formats.{Never, Only, ReadsContent, ReadsField}
use Rattle.der_parser.specs.Numbers.{AnswersDerNumber, unsigned}
use Rattle.der_parser.proofs.FormatLaws.{never}
use Rattle.der_parser.proofs.FormatSequences.{only_left, only_read, only_stops}
use Rattle.der_cursor.proofs.AnyLaws.{header_told}
use Rattle.der_uses.specs.Uses.{AnyOfDer, NumberOf}

-- the cursor after an element has the octets that it was left
left_behind : (old new : Cursor) (rest : Bor (List ℕ)) → new ≡ advanced old rest → (octets_left new ≡ rest.now) × (new ≡ advanced old new.left)
left_behind old new rest q = (ap (λ c. c.left.now) q, q ∙ ap (λ b. advanced old b) (sym (ap (λ c. c.left) q)))

pub number_read : {old new : Cursor} (result : Result ℕ (ReadError BerError))
    → Reads (λ (i : Bor (List ℕ)) (r : Answered ℕ BerError). AnswersDerNumber pos (unsigned 64) i.now r) old result new → ReadsField (NumberOf (unsigned 64)) pos Never old result new
number_read {old = old} {new = new} (Ok n) (rest, a, q) fresh =
    let b = left_behind old new rest q in
    record {
      found = (rw b.0 a.found, b.1);
      only = λ v after z. let e = a.only (v, after) z in (ap (λ y. y.0) e, b.0 ∙ ap (λ y. y.1) e);
    }
number_read {old = old} (Err e) (a, q, s) fresh =
    record { found = tt; only = λ v after z. never _ e.reason (a.only (v, after) z) }

any_read : {old new : Cursor} (result : Result Any (ReadError BerError))
    → Reads (λ (i : Bor (List ℕ)) (r : Answered Any BerError). AnswersDerAny i.now r) old result new → ReadsField AnyOfDer element_of Never old result new
any_read {old = old} {new = new} (Ok x) (rest, a, q) fresh =
    let b = left_behind old new rest q in
    let f = a.found in
    record {
      found = (rw b.0 (f.begins, (f.length, f.raw_tag)), b.1);
      only = λ v after z.
          let e = a.only (record { class = v.0; constructed = v.1; number = v.2; content = v.3; rest = after }) z.0 in (
            header_told Der (octets_left old) (element_of x) v (ap (λ y. y.class) e) (ap (λ y. y.constructed) e) (ap (λ y. y.number) e) (ap (λ y. y.content) e) (f.length, f.raw_tag) z.1,
            b.0 ∙ ap (λ y. y.rest) e,
          );
    }
any_read {old = old} (Err e) (a, q, s) fresh =
    record { found = tt; only = λ v after z. never _ e.reason (a.only (record { class = v.0; constructed = v.1; number = v.2; content = v.3; rest = after }) z.0) }

ended : {c d : Cursor} (made : Bor (List ℕ) → ErrorKind → BerError → Type 0) (v : Any) (result : Result Any (ReadError BerError)) → IsLast made v d result → ReadsField {E = ReadError BerError} AnyOfDer element_of Never c (Ok v) d
    → ReadsContent (Only AnyOfDer) element_of Never c result
ended made v (Ok x) (q, e) h = rw e (only_read h q)
ended made v (Err e) l h = only_left h l.0

pub last_read : (c : Cursor) (result : Result Any (ReadError BerError))
    → ReadsLast (λ (i : Bor (List ℕ)) (r : Answered Any BerError). AnswersDerAny i.now r) (λ (i : Bor (List ℕ)) (k : ErrorKind) (e : BerError). e ≡ NomError k) c result → ReadsContent (Only AnyOfDer) element_of Never c result
last_read c result (inl (e, q, h)) = rw q (only_stops (subst (λ r. ReadsField AnyOfDer element_of Never c r c) q (any_read {old = c} {new = c} result h)))
last_read c result (inr (v, d, h, l)) = ended (λ (i : Bor (List ℕ)) (k : ErrorKind) (e : BerError). e ≡ NomError k) v result l (any_read {old = c} {new = d} (Ok v) h)
