-- Fields with names, and readers of an input.
use Rattle.std.proofs.Common.{◌≡◌, ℕ, List, [], ◌∷◌, true, Bor, Option, Some, None, Result, Ok, Err, refl, sym, ap, subst, ◌∙◌, inr}
use Rattle.std.specs.Prelude.{map}
use Rattle.std.specs.Option.{option_map}
use Rattle.std.specs.Result.{IsErrAnd}
use Rattle.std.proofs.lemmas.Result.{err_from_is_err_and}
use Rattle.der_base.specs.declared.error.Err.TheVariants.{Error}
use Rattle.der_base.specs.declared.error.Error.{Error as BerError}
use Rattle.der_base.specs.declared.error.Error.TheVariants.{BerValueError}
use Rattle.der_base.specs.declared.header.Class.TheVariants.{ContextSpecific}
use Rattle.der_base.specs.declared.rules.Rules.TheVariants.{Der}
use Rattle.der_base.specs.Refusal.{wrong_value}
use Rattle.der_cursor.specs.declared.cursor.Cursor.{Cursor}
use Rattle.der_cursor.specs.declared.named.FieldError.{FieldError}
use Rattle.der_cursor.specs.declared.error.ReadError.{ReadError}
use Rattle.der_cursor.specs.Cursors.{EndsAt, OpensAt, OpensTagged, OpensType, StartsAt, class_wanted, number_wanted, octets_left, refusal_at}
use Rattle.der_cursor.specs.Elements.{BeginsWithTag}
use Rattle.der_cursor.specs.Named.{NamesRefusal}
use Rattle.der_cursor.proofs.Sequences.{ok_named}
use Rattle.x509.specs.Formats.{Fault, Format, ◌>>=◌, element, end_of_content, inside, requiring, sequence, spells, wrong_at}
use Rattle.x509.specs.Readers.{Reads, ReadsBy, ReadsExactly, ReadsToEnd, fault_of}
use Rattle.x509.proofs.ExactLaws.{read_exactly}
use Rattle.x509.proofs.FormatLaws.{IsExact}
use Rattle.x509.proofs.ReaderLaws.{content_is, element_read, end_read, finished, first, nothing_read, opened_tag, second, step, stop, type_read, within, within_whole}
use Rattle.x509.proofs.ReaderLaws.{whole as to_end}
use Rattle.x509_keys.specs.Fields.{KeyFault, alone, field, key_fault, optional, optional_explicit, whole}

-- an error that is passed on
pub passed : {X E T V : Type 0} {fault : X → E} {view : T → V} {f : Format E V} {old new : Cursor} {e : X} {result : Result T X} → IsErrAnd result (λ y. y ≡ e)
    → ReadsBy fault view f old (Err e) new → ReadsBy fault view f old result new
passed {result = result} q a = let y = err_from_is_err_and result q in rw (y.1, y.2) a

-- a field that is given its name
module _ {T V : Type 0} (name : Bor (List ℕ)) where
  named_to : (view : T → V) (f : Format Fault V) (old new : Cursor) (found : Result T (ReadError BerError)) (result : Result T FieldError)
      → NamesRefusal found name result → Reads fault_of view f old found new → Reads key_fault view (field name.now f) old result new
  named_to view f old new (Ok x) result e r = subst (λ z. Reads key_fault view (field name.now f) old z new) (sym e) r
  named_to view f old new (Err x) result e r =
      let q = err_from_is_err_and result e in
      subst (λ z. Reads key_fault view (field name.now f) old z new) (sym q.1)
      (fault_of x, r, ap (λ n. (map (λ b. b.now) n, fault_of q.0.refusal)) q.2.1 ∙ ap (λ y. (name.now ∷ [], fault_of y)) q.2.0)

  pub named_read : {view : T → V} {f : Format Fault V} {old new : Cursor} {found : Result T (ReadError BerError)} {result : Result T FieldError}
      → ReadsBy fault_of view f old found new → NamesRefusal found name result → ReadsBy key_fault view (field name.now f) old result new
  named_read {view = view} {f = f} {old = old} {new = new} {found = found} {result = result} a e = record { reads = λ h. named_to view f old new found result e (a.reads h) }

-- a SEQUENCE that is opened, and its fields are read
pub in_sequence : (name : Bor (List ℕ)) (inner : Cursor) {T V : Type 0} {view : T → V} {f : Format KeyFault V} {old mid after : Cursor} {found : Result Cursor (ReadError BerError)} {result : Result T FieldError}
    → OpensType true 16 old found mid → NamesRefusal found name (Ok inner) → ReadsBy key_fault view f inner result after
    → ReadsBy key_fault view (field name.now sequence >>= λ w. inside w f) old result mid
in_sequence name inner {f = f} {old = old} {mid = mid} {found = found} o n a =
    let o' = subst (λ r. OpensType true 16 old r mid) (ok_named name inner found n) o in
    record {
      reads = λ h.
          (step {k = λ w. inside w f} (named_read name (type_read true 16 o') refl) (within (content_is (class_wanted old.implicit) true (number_wanted old.implicit 16) o' h) a)).reads h;
    }

-- what is read from the start of an input, to its end
ended : {V : Type 0} (f : Format KeyFault V) (n : List ℕ) (i : List ℕ) (v : V) (rest : List ℕ) → spells (whole n f) i v rest → rest ≡ []
ended f n i v rest (c, m, s, (u, m', e, d)) = d.1 ∙ e.1 ∙ e.0

module _ {V : Type 0} {f : Format KeyFault V} (exact : IsExact f) {T : Type 0} {view : T → V} {i : List ℕ} {c d : Cursor} (s : StartsAt Der i c) where
  from_start : (n : List ℕ) {result : Result T FieldError} → ReadsBy key_fault view (whole n f) c result d → ReadsExactly key_fault view (whole n f) i result
  from_start n {result = result} a = read_exactly key_fault view (whole n f) (exact, λ v. (tt, λ u. tt)) (ended f n) i c result s (to_end a)

  pub input_stops : {n : List ℕ} {e : FieldError} {result : Result T FieldError} → ReadsBy key_fault view f c (Err e) d → IsErrAnd result (λ y. y ≡ e) → ReadsExactly key_fault view (whole n f) i result
  input_stops {n = n} a q = from_start n (passed q (stop {view = view} a))

  pub input_left : (name : Bor (List ℕ)) (found : Result (Unit {0}) (ReadError BerError)) (e : FieldError) {x : T} {result : Result T FieldError}
      → ReadsBy key_fault view f c (Ok x) d → EndsAt d found → NamesRefusal found name (Err e) → IsErrAnd result (λ y. y ≡ e) → ReadsExactly key_fault view (whole name.now f) i result
  input_left name found e a z n q = from_start name.now (passed q (step a (stop (named_read name (end_read z) n))))

  pub input_read : (name : Bor (List ℕ)) (found : Result (Unit {0}) (ReadError BerError)) {x : T} {u : Unit {0}} → ReadsBy key_fault view f c (Ok x) d → EndsAt d found → NamesRefusal found name (Ok u)
      → ReadsExactly key_fault view (whole name.now f) i (Ok x)
  input_read name found a z n = from_start name.now (step a (step (named_read name (end_read z) n) (finished refl)))

-- a value whose first field is refused after the others
pub first_refused : {T V : Type 0} {view : T → V} {P : V → Type 0} {f : Format KeyFault V} (name : Bor (List ℕ)) {old mid : Cursor} {v : V} {e : ReadError BerError} {result : Result T FieldError}
    → ReadsBy key_fault (λ v. v) f old (Ok v) mid → ¬ P v → e ≡ refusal_at old (Error BerValueError) → NamesRefusal {T = T} (Err e) name result
    → ReadsBy key_fault view (requiring P (λ s. (name.now ∷ [], wrong_at wrong_value s)) f) old result mid
first_refused name {mid = mid} {v = v} {result = result} a n q m =
    let y = err_from_is_err_and result m in
    rw y.1 (record {
      reads = λ h. inr (v, octets_left mid, (a.reads h).0, n, ap (λ n. (map (λ b. b.now) n, fault_of y.0.refusal)) y.2.1 ∙ ap (λ x. (name.now ∷ [], fault_of x)) (y.2.0 ∙ q));
    })

-- an explicit tag that may be absent, whose content is kept
tag_to : (n : ℕ) (old new : Cursor) (result : Result (Option Cursor) (ReadError BerError)) → OpensTagged n old result new
    → ReadsBy fault_of (option_map octets_left) (optional (BeginsWithTag n) (element ContextSpecific true n)) old result new
tag_to n old new (Ok None) o = second o.0 (nothing_read refl o.1)
tag_to n old new (Ok (Some inner)) o = first o.0 (step (element_read ContextSpecific true n o.1) (finished refl))
tag_to n old new (Err e) o = first o.0 (stop (element_read ContextSpecific true n o.1))

pub tag_kept : {n : ℕ} {old new : Cursor} {result : Result (Option Cursor) (ReadError BerError)} → OpensTagged n old result new
    → ReadsBy fault_of (option_map octets_left) (optional (BeginsWithTag n) (element ContextSpecific true n)) old result new
tag_kept {n} {old} {new} {result} o = tag_to n old new result o

-- or is read
module _ {T V : Type 0} {view : T → V} {f : Format Fault V} (n : ℕ) {old mid : Cursor} where
  content : {inner : Cursor} {result : Result T (ReadError BerError)} → OpensAt ContextSpecific true n old (Ok inner) mid → ReadsToEnd fault_of view (alone f) inner result
      → ReadsBy fault_of view (element ContextSpecific true n >>= λ w. inside w (alone f)) old result mid
  content o a = opened_tag n {k = λ w. inside w (alone f)} o (λ i. within_whole i a)

  pub tag_unopened : {e : ReadError BerError} → OpensTagged n old (Err e) mid → ReadsBy fault_of (option_map view) (optional_explicit n f) old (Err e) mid
  tag_unopened o = first o.0 (stop {view = view} (stop (element_read ContextSpecific true n o.1)))

  pub tag_absent : OpensTagged n old (Ok None) mid → ReadsBy fault_of (option_map view) (optional_explicit n f) old (Ok None) mid
  tag_absent o = second o.0 (nothing_read refl o.1)

  pub tag_stops : {inner : Cursor} {e : ReadError BerError} → OpensTagged n old (Ok (Some inner)) mid → ReadsToEnd {T = T} fault_of view (alone f) inner (Err e)
      → ReadsBy fault_of (option_map view) (optional_explicit n f) old (Err e) mid
  tag_stops o a = first o.0 (stop (content o.1 a))

  pub tag_read : {inner : Cursor} {x : T} → OpensTagged n old (Ok (Some inner)) mid → ReadsToEnd fault_of view (alone f) inner (Ok x)
      → ReadsBy fault_of (option_map view) (optional_explicit n f) old (Ok (Some x)) mid
  tag_read o a = first o.0 (step (content o.1 a) (finished refl))
