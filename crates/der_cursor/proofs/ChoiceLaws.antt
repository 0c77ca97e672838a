-- Choices of types, which the header of the next element tells apart.
use Rattle.std.proofs.Common.{◌≡◌, ◌≢◌, ℕ, List, Result, Ok, Err, Bor, sym, ap, subst, ◌∙◌}
use Rattle.std.specs.Result.{IsErrAnd}
use Rattle.std.proofs.lemmas.Result.{err_from_is_err_and}
use Rattle.der_base.specs.declared.any.Any.{Any}
use Rattle.der_base.specs.declared.error.Error.{Error as BerError}
use Rattle.der_base.specs.Header.{number_of}
use Rattle.der_cursor.specs.declared.cursor.Cursor.{Cursor}
use Rattle.der_cursor.specs.declared.named.FieldError.{FieldError}
use Rattle.der_cursor.specs.declared.error.ReadError.{ReadError}
use Rattle.der_cursor.specs.Cursors.{octets_left, rules_of, ReadsAnyAt}
use Rattle.der_cursor.specs.Named.{NamesRefusal}
use Rattle.der_cursor.specs.Formats.{Choice, Format, Required, ReadsField, TellsNext}
use Rattle.der_cursor.proofs.FormatLaws.{never}
use Rattle.der_cursor.proofs.Sequences.{err_named, ok_named}

module _ {K V : Type 0} (F : K → Format V) {c : Cursor} where
  -- the next element is none
  pub next_stops : {d : Cursor} {e f : ReadError BerError} → ReadsAnyAt c (Err e) d → TellsNext F c (Err f)
  next_stops {e = e} h = record {
    only = λ k w s. absurd (never _ e.reason (h.any_read.only (record { class = (F k).class; constructed = (F k).constructed; number = (F k).number; content = w.0; rest = w.1 }) s));
  }

  -- it is of none of the types, by its number
  pub next_unknown : {d : Cursor} {f : ReadError BerError} (a : Any) (t : ℕ) → ReadsAnyAt c (Ok a) d → t ≡ number_of a.header → ((k : K) → (F k).number ≢ t) → TellsNext F c (Err f)
  next_unknown a t h q n = record {
    only = λ k w s. absurd (n k (sym (q ∙ ap (λ e. e.number) (h.any_read.only (record { class = (F k).class; constructed = (F k).constructed; number = (F k).number; content = w.0; rest = w.1 }) s))));
  }

  -- it is of the one of this number
  pub next_known : {d : Cursor} (one : (a b : K) → (F a).number ≡ (F b).number → a ≡ b) (a : Any) (o : K) (t : ℕ) → ReadsAnyAt c (Ok a) d → t ≡ number_of a.header → (F o).number ≡ t → TellsNext F c (Ok o)
  next_known one a o t h q n = record {
    only = λ k w s. one o k (n ∙ q ∙ ap (λ e. e.number) (h.any_read.only (record { class = (F k).class; constructed = (F k).constructed; number = (F k).number; content = w.0; rest = w.1 }) s));
  }

  pub next_named : (name : Bor (List ℕ)) (x : K) {r : Result K (ReadError BerError)} → TellsNext F c r → NamesRefusal r name (Ok x) → TellsNext F c (Ok x)
  next_named name x {r = r} n q = subst (λ k. TellsNext F c k) (ok_named name x r q) n

  -- A field that is one of the types.
  module _ {T : Type 0} {May : FieldError → Type 0} {view : T → K × V} where
    pub no_choice : (name : Bor (List ℕ)) {new : Cursor} (f : FieldError) {r : Result K (ReadError BerError)} {result : Result T FieldError}
        → TellsNext F c r → NamesRefusal r name (Err f) → IsErrAnd result (λ y. y ≡ f) → ReadsField (Choice F) view May c result new
    unfolding Choice Required
    no_choice name f {r = r} {result = result} n q s fresh =
        let e = err_named name f r q in
        let y = err_from_is_err_and result s in
        let k = subst (λ k. TellsNext F c k) e.1 n in
        rw y.1 (record { found = tt; only = λ v rest z. absurd (k.only v.0 (z.0, rest) z.2) })

  module _ {T U E : Type 0} {May : E → Type 0} {part : T → V} {view : U → K × V} {o : K} (n : TellsNext F c (Ok o)) where
    pub choice_read : {new : Cursor} {x : T} {y : U} → view y ≡ (o, part x) → ReadsField {E = E} (Required (F o)) part May c (Ok x) new → ReadsField {E = E} (Choice F) view May c (Ok y) new
    unfolding Choice Required
    choice_read {new = new} {x = x} e h fresh = let r = h fresh in record {
      found = (subst (λ v. Required (F v.0) (rules_of c) (octets_left c) v.1 (octets_left new)) (sym e) r.found.0, r.found.1);
      only = λ v rest z.
          let same : o ≡ v.0 = n.only v.0 (z.0, rest) z.2 in
          let q = r.only v.1 rest (subst (λ k. Required (F k) (rules_of c) (octets_left c) v.1 rest) (sym same) z) in
          (e ∙ ap (λ k. (k, part x)) same ∙ ap (λ y. (v.0, y)) q.0, q.1);
    }

    pub choice_stops : {new after : Cursor} (e : E) {result : Result U E} → IsErrAnd result (λ y. y ≡ e) → ReadsField {T = T} (Required (F o)) part May c (Err e) new → ReadsField (Choice F) view May c result after
    unfolding Choice Required
    choice_stops e {result = result} s h fresh =
        let r = h fresh in
        let y = err_from_is_err_and result s in
        rw (y.1, y.2) (record {
          found = tt;
          only = λ v rest z. r.only v.1 rest (subst (λ k. Required (F k) (rules_of c) (octets_left c) v.1 rest) (sym (n.only v.0 (z.0, rest) z.2)) z);
        })
