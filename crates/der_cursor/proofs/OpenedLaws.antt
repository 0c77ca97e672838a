-- Cursors that are opened over the octets of a content.
use Rattle.std.proofs.Common.{◌≡◌, ◌≢◌, ℕ, true, List, [], Result, Ok, Err, Bor, refl, sym, ap, subst, ◌∙◌}
use Rattle.std.specs.Result.{IsErrAnd}
use Rattle.std.proofs.lemmas.Result.{err_from_is_err_and}
use Rattle.der_base.specs.declared.error.Error.{Error as BerError}
use Rattle.der_base.specs.declared.header.Class.{Class}
use Rattle.der_base.specs.declared.rules.Rules.{Rules}
use Rattle.der_cursor.specs.declared.cursor.Cursor.{Cursor}
use Rattle.der_cursor.specs.declared.named.FieldError.{FieldError}
use Rattle.der_cursor.specs.declared.error.ReadError.{ReadError}
use Rattle.der_cursor.specs.Cursors.{octets_left, rules_of, OpensAt, OpensType}
use Rattle.der_cursor.specs.Named.{NamesRefusal}
use Rattle.der_cursor.specs.Formats.{Constructed, Content, Never, Octets, Only, Opens, Required, Sequence, ReadsContent}
use Rattle.der_cursor.proofs.FormatLaws.{inside_of, kept_read, unopened_of}
use Rattle.der_cursor.proofs.Sequences.{err_named, ok_named, only_read, only_stops}

-- K is the content O, with C in the octets that O keeps.
pub record Holds {V : Type 0} (K : Content V) (O : Content (List ℕ)) (C : Content V) : Type 0 where
  pub apart : (r : Rules) (w : List ℕ) (v : V) → K r w v → (u : List ℕ) × O r w u × C r u v
  pub together : (r : Rules) (w u : List ℕ) (v : V) → O r w u → C r u v → K r w v

pub in_sequence : {V : Type 0} (C : Content V) → Holds (Only (Required (Sequence C))) (Only (Required (Sequence Octets))) C
unfolding Only Required Octets
in_sequence C = record {
  apart = λ r w v z. (z.0, (z.0, refl, z.2), z.1);
  together = λ r w u v z h. (z.0, subst (λ y. C r y v) z.1 h, z.2);
}

pub in_tag : {V : Type 0} (c : Class) (n : ℕ) (C : Content V)
    → Holds (Only (Required (Constructed c n (Only (Required (Sequence C)))))) (Only (Required (Constructed c n (Only (Required (Sequence Octets)))))) C
unfolding Only Required Octets
in_tag c n C = record {
  apart = λ r w v z. let y = z.1 in (y.0, (z.0, (y.0, refl, y.2), z.2), y.1);
  together = λ r w u v z h. let y = z.1 in (z.0, (y.0, subst (λ s. C r s v) y.1 h, y.2), z.2);
}

module _ {V : Type 0} {K : Content V} {O : Content (List ℕ)} {C : Content V} (s : Holds K O C) {c : Cursor} where
  pub within : {T E : Type 0} {view : T → V} {May : E → Type 0} {inner : Cursor} (result : Result T E) → Opens O c (Ok inner) → ReadsContent C view May inner result → ReadsContent K view May c result
  within {view = view} {inner = inner} (Ok x) o h fresh =
      let k = o.octets fresh in
      let r = h o.by.1 in record {
        found = s.together _ _ _ _ k.found (subst (λ y. C y (octets_left inner) (view x)) o.by.0 r.found);
        only = λ v p.
            let z = s.apart _ _ v p in
            r.only v (subst (λ y. C y (octets_left inner) v) (sym o.by.0) (subst (λ u. C (rules_of c) u v) (sym (k.only z.0 z.1)) z.2));
      }
  within {inner = inner} (Err e) o h fresh =
      let k = o.octets fresh in
      let r = h o.by.1 in record {
        found = tt;
        only = λ v p.
            let z = s.apart _ _ v p in
            r.only v (subst (λ y. C y (octets_left inner) v) (sym o.by.0) (subst (λ u. C (rules_of c) u v) (sym (k.only z.0 z.1)) z.2));
      }

  pub not_within : {T E : Type 0} {view : T → V} {May : E → Type 0} {e : ReadError BerError} (x : E) {result : Result T E} → Opens O c (Err e) → IsErrAnd result (λ y. y ≡ x)
      → ReadsContent K view May c result
  not_within x {result = result} o n fresh = let y = err_from_is_err_and result n in rw y.1 (record { found = tt; only = λ v p. let z = s.apart _ _ v p in absurd ((o.octets fresh).only z.0 z.1) })

  -- with the name of the field
  pub within_named : {T E : Type 0} {view : T → V} {May : E → Type 0} (name : Bor (List ℕ)) (inner : Cursor) {r : Result Cursor (ReadError BerError)} (result : Result T E) → Opens O c r
      → NamesRefusal r name (Ok inner)
      → ReadsContent C view May inner result → ReadsContent K view May c result
  within_named name inner {r = r} result o n h = within result (subst (λ x. Opens O c x) (ok_named name inner r n) o) h

  pub not_within_named : {T : Type 0} {view : T → V} {May : FieldError → Type 0} (name : Bor (List ℕ)) (f : FieldError) {r : Result Cursor (ReadError BerError)} {result : Result T FieldError}
      → Opens O c r
      → NamesRefusal r name (Err f) → IsErrAnd result (λ y. y ≡ f) → ReadsContent K view May c result
  not_within_named name f {r = r} o n q = let e = err_named name f r n in not_within f (subst (λ x. Opens O c x) e.1 o) q

-- Elements that are opened, which have to be the last.
module _ {V : Type 0} (C : Content V) {class : Class} {n : ℕ} {old inner new : Cursor} where
  pub opened_left : {T E : Type 0} {view : T → V} {May : E → Type 0} {e : E} → OpensAt class true n old (Ok inner) new → octets_left new ≢ []
      → ReadsContent (Only (Required (Constructed class n C))) view May old (Err e)
  unfolding Only Required
  opened_left o q fresh = record { found = tt; only = λ v z. absurd (q (ap (λ y. y.1) (o.element.only (z.0, []) z.2))) }

module _ {class : Class} {n : ℕ} {O : Content (List ℕ)} {old inner new : Cursor} where
  pub opens_in : (result : Result Cursor (ReadError BerError)) → OpensAt class true n old (Ok inner) new → octets_left new ≡ [] → Opens O inner result
      → Opens (Only (Required (Constructed class n O))) old result
  opens_in (Ok d) o q h = record {
    octets = only_read (inside_of _ o h.octets) q;
    by = (h.by.0 ∙ o.places.3, h.by.1);
  }
  opens_in (Err e) o q h = record { octets = only_stops (inside_of _ {new = new} o h.octets); by = tt }

pub not_opened : {V : Type 0} (C : Content V) {T E : Type 0} {view : T → V} {May : E → Type 0} {class : Class} {n : ℕ} {old after : Cursor} {e : ReadError BerError} {x : E}
    → OpensAt class true n old (Err e) after
    → ReadsContent (Only (Required (Constructed class n C))) view May old (Err x)
not_opened C {view = view} {May = May} {after = after} o = only_stops (unopened_of C {view = view} {May = May} {new = after} o)

pub opens_nothing : {C : Content (List ℕ)} {c : Cursor} {e : ReadError BerError} {result : Result Cursor (ReadError BerError)} → ReadsContent C octets_left Never c (Err e)
    → IsErrAnd result (λ y. y ≡ e) → Opens C c result
opens_nothing {result = result} h s = let y = err_from_is_err_and result s in rw (y.1, y.2) (record { octets = h; by = tt })

pub opens_sequence : {old inner new : Cursor} → OpensType true 16 old (Ok inner) new → octets_left new ≡ [] → Opens (Only (Required (Sequence Octets))) old (Ok inner)
opens_sequence o q = record { octets = only_read (kept_read 16 o) q; by = (o.places.3, o.places.4) }
