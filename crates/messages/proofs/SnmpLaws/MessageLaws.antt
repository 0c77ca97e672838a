-- Fields of messages, from those that a cursor reads.
use Rattle.std.proofs.Common.{◌≡◌, ◌≢◌, ℕ, pos, false, List, length, Some, Result, Ok, Err, Bor, refl, sym, ap, subst, ◌∙◌, arith}
use Rattle.std.specs.Net.Addr.{ipv4_octets}
use Rattle.std.specs.Prelude.{MatchResult}
use Rattle.std.specs.Result.{IsErrAnd}
use Rattle.std.specs.declared.net.ipv4_addr.Ipv4Addr.{Ipv4Addr}
use Rattle.std.proofs.lemmas.Int.{ints}
use Rattle.std.proofs.lemmas.Result.{err_from_is_err_and}
use Rattle.der_base.specs.declared.any.Any.{Any}
use Rattle.der_base.specs.declared.error.Error.{Error as BerError}
use Rattle.der_base.specs.declared.header.Class.TheVariants.{Application}
use Rattle.der_base.specs.Numbers.{unsigned}
use Rattle.der_base.specs.Octets.{identifier}
use Rattle.der_cursor.specs.declared.cursor.Cursor.{Cursor}
use Rattle.der_cursor.specs.declared.error.ReadError.{ReadError}
use Rattle.der_cursor.specs.Cursors.{octets_left, rules_of}
use Rattle.der_cursor.specs.Elements.{SpellsElement}
use Rattle.der_cursor.specs.Formats.{AnyElement, Element, Field, Required, Never, Number, OctetString, Tagged, element_of}
use Rattle.der_cursor.specs.Formats.{ReadsWhole, ReadsField}
use Rattle.der_cursor.proofs.AnyLaws.{spelled_any}
use Rattle.messages.specs.declared.snmp.message.Value.{Value as ValueStruct}
use Rattle.messages.specs.declared.snmp.message.Version.{Version}
use Rattle.messages.specs.declared.snmp.message.Version.TheVariants.{One, TwoC}
use Rattle.messages.specs.Snmp.Messages.{IpAddress, IsSyntax, ObjectSyntax, ReadsSyntax, VersionFormat, syntax_of, version_number}

-- a reader that takes no memory
abbrev Reads : {T V : Type 0} → Field V → (T → V) → Cursor → Result T (ReadError BerError) → Cursor → Type 0
Reads F view old result new = ReadsField F view Never old result new

abbrev IsAddressOf : Bor (List ℕ) → Result Ipv4Addr BerError → Type 0
IsAddressOf w result = ReadsWhole (λ (u : List ℕ). (u ≡ w.now) × (length u ≡ 4)) ipv4_octets Never result

-- Versions.
one_version : (v u : Version) → version_number v ≡ version_number u → v ≡ u
one_version One One e = refl
one_version TwoC TwoC e = refl
one_version One TwoC e = absurd (omega (arith, ints))
one_version TwoC One e = absurd (omega (arith, ints))

is_no_version : (n : ℕ) (u : Version) → n ≢ 0 → n ≢ 1 → pos n ≡ version_number u → ⊥
is_no_version n One a b e = omega (arith, ints)
is_no_version n TwoC a b e = omega (arith, ints)

module _ {old : Cursor} where
  pub version_read : {new : Cursor} (v : Version) (n : ℕ) → pos n ≡ version_number v → Reads (Required (Number (unsigned 32))) pos old (Ok n) new → Reads (Required VersionFormat) (λ v. v) old (Ok v) new
  unfolding Required
  version_read v n q h fresh = let r = h fresh in record {
    found = (let z = r.found.0 in (z.0, subst (λ m. (Number (unsigned 32)).content (rules_of old) z.0 m) q z.1, z.2), r.found.1);
    only = λ u rest z. let e = r.only (version_number u) rest z in (one_version v u (sym q ∙ e.0), e.1);
  }

  pub not_version : {new after : Cursor} {e : ReadError BerError} (n : ℕ) → n ≢ 0 → n ≢ 1 → Reads (Required (Number (unsigned 32))) pos old (Ok n) new → Reads (Required VersionFormat) (λ v. v) old (Err e) after
  unfolding Required
  not_version n a b h fresh = let r = h fresh in record {
    found = tt;
    only = λ u rest z. absurd (is_no_version n u a b (r.only (version_number u) rest z).0);
  }

  pub version_stops : {new after : Cursor} {e : ReadError BerError} → Reads (Required (Number (unsigned 32))) pos old (Err e) new → Reads (Required VersionFormat) (λ v. v) old (Err e) after
  unfolding Required
  version_stops h fresh = let r = h fresh in record { found = tt; only = λ u rest z. r.only (version_number u) rest z }

-- Addresses.
module _ {old : Cursor} where
  pub address_read : {new : Cursor} (w : Bor (List ℕ)) (a : Ipv4Addr) → Reads (Required (Tagged Application 0 OctetString)) (λ v. v.now) old (Ok w) new
      → IsAddressOf w (Ok a) → Reads (Required IpAddress) ipv4_octets old (Ok a) new
  unfolding Required
  address_read w a h s fresh = let r = h fresh in record {
    found = (let z = r.found.0 in (z.0, (subst (λ u. OctetString.content (rules_of old) z.0 u) (sym s.found.0) z.1, s.found.1), z.2), r.found.1);
    only = λ u rest z. let q = r.only u rest (z.0, z.1.0, z.2) in (s.only u (sym q.0, z.1.1), q.1);
  }

  pub address_refused : {new after : Cursor} (w : Bor (List ℕ)) {x : BerError} {e : ReadError BerError} → Reads (Required (Tagged Application 0 OctetString)) (λ v. v.now) old (Ok w) new
      → IsAddressOf w (Err x) → Reads (Required IpAddress) ipv4_octets old (Err e) after
  unfolding Required
  address_refused w h s fresh = let r = h fresh in record {
    found = tt;
    only = λ u rest z. let q = r.only u rest (z.0, z.1.0, z.2) in s.only u (sym q.0, z.1.1);
  }

  pub address_stops : {new after : Cursor} {x e : ReadError BerError} → Reads {T = Bor (List ℕ)} (Required (Tagged Application 0 OctetString)) (λ v. v.now) old (Err x) new → Reads (Required IpAddress) ipv4_octets old (Err e) after
  unfolding Required
  address_stops h fresh = let r = h fresh in record { found = tt; only = λ u rest z. r.only u rest (z.0, z.1.0, z.2) }

-- the address of what was read, or a refusal at its place
pub address_turned : {old new : Cursor} (P : BerError → ReadError BerError → Type 0) (w : Bor (List ℕ)) (r : Result Ipv4Addr BerError) (s : Result Ipv4Addr (ReadError BerError))
    → Reads (Required (Tagged Application 0 OctetString)) (λ v. v.now) old (Ok w) new → IsAddressOf w r → MatchResult r (λ x. s ≡ Ok x) (λ e. IsErrAnd s (P e)) → Reads (Required IpAddress) ipv4_octets old s new
address_turned P w (Ok a) s h i m = rw m (address_read w a h i)
address_turned P w (Err x) s h i m = let y = err_from_is_err_and s m in rw y.1 (address_refused w h i)

-- Values of bindings.
module _ {old : Cursor} where
  pub syntax_read : {new : Cursor} (a : Any) (x : ValueStruct) → Reads AnyElement element_of old (Ok a) new → ReadsSyntax (element_of a) (Ok x) → Reads ObjectSyntax syntax_of old (Ok x) new
  unfolding ObjectSyntax AnyElement
  syntax_read {new = new} a x h s fresh = let r = h fresh in let e = element_of a in record {
    found = ((e.0, e.2, e.3, s.found.1, subst (λ p. SpellsElement (rules_of old) e.0 p e.2 (octets_left old) (e.3, octets_left new)) s.found.0 r.found.0.0), r.found.1);
    only = λ v rest z.
        let y = spelled_any (rules_of old) z.0 false z.1 (octets_left old) (z.2, rest) z.4 in
        let q = r.only (z.0, false, z.1, z.2, y.0, Some (identifier z.0 false z.1)) rest y.1 in
        (s.only v (subst (λ (y : Element). (y.1 ≡ false) × IsSyntax v y.0 y.2 y.3) (sym q.0) (refl, z.3)), q.1);
  }

  pub syntax_refused : {new after : Cursor} (a : Any) {x : BerError} {e : ReadError BerError} → Reads AnyElement element_of old (Ok a) new → ReadsSyntax (element_of a) (Err x) → Reads ObjectSyntax syntax_of old (Err e) after
  unfolding ObjectSyntax AnyElement
  syntax_refused a h s fresh = let r = h fresh in record {
    found = tt;
    only = λ v rest z.
        let y = spelled_any (rules_of old) z.0 false z.1 (octets_left old) (z.2, rest) z.4 in
        let q = r.only (z.0, false, z.1, z.2, y.0, Some (identifier z.0 false z.1)) rest y.1 in
        s.only v (subst (λ (y : Element). (y.1 ≡ false) × IsSyntax v y.0 y.2 y.3) (sym q.0) (refl, z.3));
  }

  pub syntax_stops : {new after : Cursor} {x e : ReadError BerError} → Reads {T = Any} AnyElement element_of old (Err x) new → Reads ObjectSyntax syntax_of old (Err e) after
  unfolding ObjectSyntax AnyElement
  syntax_stops h fresh = let r = h fresh in record {
    found = tt;
    only = λ v rest z.
        let y = spelled_any (rules_of old) z.0 false z.1 (octets_left old) (z.2, rest) z.4 in
        r.only (z.0, false, z.1, z.2, y.0, Some (identifier z.0 false z.1)) rest y.1;
  }

-- the value of what was read, or a refusal at its place
pub syntax_turned : {old new : Cursor} (P : BerError → ReadError BerError → Type 0) (a : Any) (r : Result ValueStruct BerError) (s : Result ValueStruct (ReadError BerError))
    → Reads AnyElement element_of old (Ok a) new → ReadsSyntax (element_of a) r → MatchResult r (λ x. s ≡ Ok x) (λ e. IsErrAnd s (P e)) → Reads ObjectSyntax syntax_of old s new
syntax_turned P a (Ok x) s h i m = rw m (syntax_read a x h i)
syntax_turned P a (Err x) s h i m = let y = err_from_is_err_and s m in rw y.1 (syntax_refused a h i)

-- a part of a value that is the same
pub same_first : {A B : Type 0} {x y : A} {b : B} → x ≡ y → ◌≡◌ {A = A × B} (x, b) (y, b)
same_first {b = b} e = ap (λ a. (a, b)) e

pub same_second : {A B : Type 0} {a : A} {x y : B} → x ≡ y → ◌≡◌ {A = A × B} (a, x) (a, y)
same_second {a = a} e = ap (λ b. (a, b)) e
