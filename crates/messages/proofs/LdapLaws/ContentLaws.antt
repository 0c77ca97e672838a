-- An element of the class context-specific.
use Rattle.std.proofs.Common.{◌≡◌, ◌≢◌, Some, Result, Ok, Err, refl, ap, subst}
use Rattle.std.specs.Prelude.{MatchResult}
use Rattle.std.specs.Result.{IsErrAnd}
use Rattle.std.proofs.lemmas.Result.{err_from_is_err_and}
use Rattle.der_base.specs.declared.any.Any.{Any}
use Rattle.der_base.specs.declared.error.Error.{Error as BerError}
use Rattle.der_base.specs.declared.header.Class.TheVariants.{ContextSpecific}
use Rattle.der_base.specs.Header.{class_of}
use Rattle.der_base.specs.Octets.{identifier}
use Rattle.der_cursor.specs.declared.cursor.Cursor.{Cursor}
use Rattle.der_cursor.specs.declared.error.ReadError.{ReadError}
use Rattle.der_cursor.specs.Cursors.{octets_left, rules_of}
use Rattle.der_cursor.specs.Elements.{SpellsElement}
use Rattle.der_cursor.specs.Formats.{AnyElement, Never, ReadsField, element_of}
use Rattle.der_cursor.proofs.AnyLaws.{spelled_any}
use Rattle.messages.specs.Ldap.Words.{AnyChoice}

module _ {old : Cursor} where
  pub choice_read : {new : Cursor} (a : Any) → class_of a.header ≡ ContextSpecific → ReadsField {E = ReadError BerError} AnyElement element_of Never old (Ok a) new
      → ReadsField {E = ReadError BerError} AnyChoice (λ x. x) Never old (Ok tt) new
  unfolding AnyChoice AnyElement
  choice_read {new = new} a q h fresh = let r = h fresh in let e = element_of a in record {
    found = ((e.1, e.2, e.3, subst (λ c. SpellsElement (rules_of old) c e.1 e.2 (octets_left old) (e.3, octets_left new)) q r.found.0.0), r.found.1);
    only = λ v rest z.
        let y = spelled_any (rules_of old) ContextSpecific z.0 z.1 (octets_left old) (z.2, rest) z.3 in
        (refl, (r.only (ContextSpecific, z.0, z.1, z.2, y.0, Some (identifier ContextSpecific z.0 z.1)) rest y.1).1);
  }

  pub other_class : {new after : Cursor} (a : Any) {e : ReadError BerError} → class_of a.header ≢ ContextSpecific → ReadsField {E = ReadError BerError} AnyElement element_of Never old (Ok a) new
      → ReadsField AnyChoice (λ x. x) Never old (Err e) after
  unfolding AnyChoice AnyElement
  other_class a n h fresh = let r = h fresh in record {
    found = tt;
    only = λ v rest z.
        let y = spelled_any (rules_of old) ContextSpecific z.0 z.1 (octets_left old) (z.2, rest) z.3 in
        absurd (n (ap (λ x. x.0) (r.only (ContextSpecific, z.0, z.1, z.2, y.0, Some (identifier ContextSpecific z.0 z.1)) rest y.1).0));
  }

  pub no_choice : {new after : Cursor} {x e : ReadError BerError} → ReadsField {T = Any} AnyElement element_of Never old (Err x) new → ReadsField AnyChoice (λ x. x) Never old (Err e) after
  unfolding AnyChoice AnyElement
  no_choice h fresh = let r = h fresh in record {
    found = tt;
    only = λ v rest z.
        let y = spelled_any (rules_of old) ContextSpecific z.0 z.1 (octets_left old) (z.2, rest) z.3 in
        r.only (ContextSpecific, z.0, z.1, z.2, y.0, Some (identifier ContextSpecific z.0 z.1)) rest y.1;
  }

-- one of another class is refused at its place
pub choice_turned : {old new : Cursor} (P : BerError → ReadError BerError → Type 0) (Q : BerError → Type 0) (a : Any) (r : Result (Unit {0}) BerError) (s : Result (Unit {0}) (ReadError BerError))
    → ReadsField {E = ReadError BerError} AnyElement element_of Never old (Ok a) new → MatchResult r (λ u. class_of a.header ≡ ContextSpecific) (λ e. (class_of a.header ≢ ContextSpecific) × Q e)
    → MatchResult r (λ x. s ≡ Ok x) (λ e. IsErrAnd s (P e)) → ReadsField AnyChoice (λ x. x) Never old s new
choice_turned P Q a (Ok u) s h i m = rw m (choice_read a i h)
choice_turned P Q a (Err x) s h i m = let y = err_from_is_err_and s m in rw y.1 (other_class a i.0 h)
