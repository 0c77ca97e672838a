-- General names: which alternative is next, and what its reader reads.
use Rattle.std.proofs.Common.{◌≡◌, ℕ, Bool, List, Result, Ok, Err, refl, sym, ap, subst, ◌∙◌, arith}
use Rattle.std.specs.Result.{IsErrAnd}
use Rattle.std.proofs.lemmas.Result.{err_from_is_err_and}
use Rattle.der_base.specs.declared.error.Error.{Error as BerError}
use Rattle.der_base.specs.declared.header.Class.{Class}
use Rattle.der_base.specs.declared.header.Class.TheVariants.{ContextSpecific}
use Rattle.der_base.specs.declared.rules.Rules.{Rules}
use Rattle.der_base.proofs.Octets.Identifiers.{identifier_same}
use Rattle.der_cursor.specs.declared.cursor.Cursor.{Cursor}
use Rattle.der_cursor.specs.declared.error.ReadError.{ReadError}
use Rattle.der_cursor.specs.Cursors.{OpensAt, octets_left, rules_of}
use Rattle.der_cursor.specs.Elements.{IsNext}
use Rattle.der_cursor.specs.Formats.{Explicit, Field, Format, Implicit, Never, ObjectIdentifier, OctetString, Octets, ReadsField, Required, Sequence, Text}
use Rattle.der_cursor.proofs.FormatLaws.{inside_of, octets_kept, spelled_next, unopened_of}
use Rattle.der_extensions.specs.declared.general_name.GeneralName.{GeneralName as NameEnum}
use Rattle.der_extensions.specs.GeneralNames.{Chosen, GeneralName, Name, NameValue, OtherName, name_of}
use Rattle.der_extensions.specs.GeneralNames.{other_name, rfc822_name, dns_name, x400_address, directory_name, edi_party_name, uniform_resource_identifier, ip_address, registered_id}

-- the number of its tag
abbrev number_of : NameValue → ℕ
number_of (other_name v) = 0
number_of (rfc822_name v) = 1
number_of (dns_name v) = 2
number_of (x400_address v) = 3
number_of (directory_name v) = 4
number_of (edi_party_name v) = 5
number_of (uniform_resource_identifier v) = 6
number_of (ip_address v) = 7
number_of (registered_id v) = 8

pub next_of : {V : Type 0} (T : Format V) (r : Rules) (i : List ℕ) (v : V) (rest : List ℕ) → Required T r i v rest → IsNext T.class T.number i
unfolding Required
next_of T r i v rest z = let y = spelled_next r T.class T.constructed T.number i (z.0, rest) z.2 in (T.constructed, y.0, y.1)

number_next : (r : Rules) (i : List ℕ) (u : NameValue) (rest : List ℕ) → GeneralName r i u rest → IsNext ContextSpecific (number_of u) i
unfolding GeneralName
number_next r i (other_name v) rest z = next_of (Implicit 0 OtherName) r i v rest z
number_next r i (rfc822_name v) rest z = next_of (Implicit 1 (Text 22)) r i v rest z
number_next r i (dns_name v) rest z = next_of (Implicit 2 (Text 22)) r i v rest z
number_next r i (x400_address v) rest z = next_of (Implicit 3 (Sequence Octets)) r i v rest z
number_next r i (directory_name v) rest z = next_of (Explicit 4 (Required Name)) r i v rest z
number_next r i (edi_party_name v) rest z = next_of (Implicit 5 (Sequence Octets)) r i v rest z
number_next r i (uniform_resource_identifier v) rest z = next_of (Implicit 6 (Text 22)) r i v rest z
number_next r i (ip_address v) rest z = next_of (Implicit 7 OctetString) r i v rest z
number_next r i (registered_id v) rest z = next_of (Implicit 8 ObjectIdentifier) r i v rest z

pub one_number : (n m : ℕ) (i : List ℕ) → IsNext ContextSpecific n i → IsNext ContextSpecific m i → n ≡ m
one_number n m i a b = (identifier_same ContextSpecific ContextSpecific a.0 b.0 n m a.1 b.1 (sym a.2 ∙ b.2)).2

-- an element that is opened, whose octets are kept
pub kept_at : {c : Class} {p : Bool} {n : ℕ} {old new : Cursor} {result : Result Cursor (ReadError BerError)} → OpensAt c p n old result new
    → ReadsField (Required (record { class = c; number = n; constructed = p; content = Octets })) octets_left Never old result new
kept_at {result = Ok inner} o = inside_of Octets o (octets_kept inner)
kept_at {result = Err e} o = unopened_of Octets o

-- a value of one alternative that was read
module _ {V W T U E : Type 0} {F : Field V} {view : T → V} {whole : U → W} where
  pub chosen_read : (alternative : V → W) {old new : Cursor} {x : T} {y : U} → whole y ≡ alternative (view x) → ReadsField {E = E} F view Never old (Ok x) new
      → ReadsField {E = E} (Chosen alternative F) whole Never old (Ok y) new
  unfolding Chosen
  chosen_read alternative {x = x} q h fresh = let r = h fresh in record {
    found = ((view x, q, r.found.0), r.found.1);
    only = λ w rest z. let e = r.only z.0 rest z.2 in (q ∙ ap alternative e.0 ∙ sym z.1, e.1);
  }

  pub chosen_stops : (alternative : V → W) {old new after : Cursor} {e : E} {result : Result U E} → ReadsField F view Never old (Err e) new → IsErrAnd result (λ y. y ≡ e)
      → ReadsField (Chosen alternative F) whole Never old result after
  unfolding Chosen
  chosen_stops alternative {result = result} h n fresh =
      let y = err_from_is_err_and result n in
      rw y.1 (record { found = tt; only = λ w rest z. (h fresh).only z.0 rest z.2 })

-- the alternative whose tag is next is the name
module _ {V : Type 0} (alternative : V → NameValue) (n : ℕ) (T : Format V)
    (to : (r : Rules) (i : List ℕ) (v : V) (rest : List ℕ) → Required T r i v rest → GeneralName r i (alternative v) rest)
    (back : (r : Rules) (i : List ℕ) (u : NameValue) (rest : List ℕ) → number_of u ≡ n → GeneralName r i u rest → Chosen alternative (Required T) r i u rest) where
  chosen : {old new : Cursor} (result : Result NameEnum (ReadError BerError)) → IsNext ContextSpecific n (octets_left old) → ReadsField (Chosen alternative (Required T)) name_of Never old result new
      → ReadsField GeneralName name_of Never old result new
  unfolding Chosen
  chosen {old = old} {new = new} (Ok x) q h fresh = let r = h fresh in let z = r.found.0 in record {
    found = (subst (λ u. GeneralName (rules_of old) (octets_left old) u (octets_left new)) (sym z.1) (to (rules_of old) (octets_left old) z.0 (octets_left new) z.2), r.found.1);
    only = λ u rest y. r.only u rest (back (rules_of old) (octets_left old) u rest (one_number (number_of u) n (octets_left old) (number_next (rules_of old) (octets_left old) u rest y) q) y);
  }
  chosen {old = old} (Err e) q h fresh = let r = h fresh in record {
    found = tt;
    only = λ u rest y. r.only u rest (back (rules_of old) (octets_left old) u rest (one_number (number_of u) n (octets_left old) (number_next (rules_of old) (octets_left old) u rest y) q) y);
  }

back_0 : (r : Rules) (i : List ℕ) (u : NameValue) (rest : List ℕ) → number_of u ≡ 0 → GeneralName r i u rest → Chosen other_name (Required (Implicit 0 OtherName)) r i u rest
unfolding GeneralName Chosen
back_0 r i (other_name v) rest e z = (v, refl, z)
back_0 r i u rest e z = absurd (omega (arith, e))

pub other_name_chosen : {old new : Cursor} {result : Result NameEnum (ReadError BerError)} → IsNext ContextSpecific 0 (octets_left old) → ReadsField (Chosen other_name (Required (Implicit 0 OtherName))) name_of Never old result new
    → ReadsField GeneralName name_of Never old result new
unfolding GeneralName
other_name_chosen {result = result} q h = chosen other_name 0 (Implicit 0 OtherName) (λ r i v rest z. z) back_0 result q h

back_1 : (r : Rules) (i : List ℕ) (u : NameValue) (rest : List ℕ) → number_of u ≡ 1 → GeneralName r i u rest → Chosen rfc822_name (Required (Implicit 1 (Text 22))) r i u rest
unfolding GeneralName Chosen
back_1 r i (rfc822_name v) rest e z = (v, refl, z)
back_1 r i u rest e z = absurd (omega (arith, e))

pub rfc822_name_chosen : {old new : Cursor} {result : Result NameEnum (ReadError BerError)} → IsNext ContextSpecific 1 (octets_left old) → ReadsField (Chosen rfc822_name (Required (Implicit 1 (Text 22)))) name_of Never old result new
    → ReadsField GeneralName name_of Never old result new
unfolding GeneralName
rfc822_name_chosen {result = result} q h = chosen rfc822_name 1 (Implicit 1 (Text 22)) (λ r i v rest z. z) back_1 result q h

back_2 : (r : Rules) (i : List ℕ) (u : NameValue) (rest : List ℕ) → number_of u ≡ 2 → GeneralName r i u rest → Chosen dns_name (Required (Implicit 2 (Text 22))) r i u rest
unfolding GeneralName Chosen
back_2 r i (dns_name v) rest e z = (v, refl, z)
back_2 r i u rest e z = absurd (omega (arith, e))

pub dns_name_chosen : {old new : Cursor} {result : Result NameEnum (ReadError BerError)} → IsNext ContextSpecific 2 (octets_left old) → ReadsField (Chosen dns_name (Required (Implicit 2 (Text 22)))) name_of Never old result new
    → ReadsField GeneralName name_of Never old result new
unfolding GeneralName
dns_name_chosen {result = result} q h = chosen dns_name 2 (Implicit 2 (Text 22)) (λ r i v rest z. z) back_2 result q h

back_3 : (r : Rules) (i : List ℕ) (u : NameValue) (rest : List ℕ) → number_of u ≡ 3 → GeneralName r i u rest → Chosen x400_address (Required (Implicit 3 (Sequence Octets))) r i u rest
unfolding GeneralName Chosen
back_3 r i (x400_address v) rest e z = (v, refl, z)
back_3 r i u rest e z = absurd (omega (arith, e))

pub x400_address_chosen : {old new : Cursor} {result : Result NameEnum (ReadError BerError)} → IsNext ContextSpecific 3 (octets_left old) → ReadsField (Chosen x400_address (Required (Implicit 3 (Sequence Octets)))) name_of Never old result new
    → ReadsField GeneralName name_of Never old result new
unfolding GeneralName
x400_address_chosen {result = result} q h = chosen x400_address 3 (Implicit 3 (Sequence Octets)) (λ r i v rest z. z) back_3 result q h

back_4 : (r : Rules) (i : List ℕ) (u : NameValue) (rest : List ℕ) → number_of u ≡ 4 → GeneralName r i u rest → Chosen directory_name (Required (Explicit 4 (Required Name))) r i u rest
unfolding GeneralName Chosen
back_4 r i (directory_name v) rest e z = (v, refl, z)
back_4 r i u rest e z = absurd (omega (arith, e))

pub directory_name_chosen : {old new : Cursor} {result : Result NameEnum (ReadError BerError)} → IsNext ContextSpecific 4 (octets_left old) → ReadsField (Chosen directory_name (Required (Explicit 4 (Required Name)))) name_of Never old result new
    → ReadsField GeneralName name_of Never old result new
unfolding GeneralName
directory_name_chosen {result = result} q h = chosen directory_name 4 (Explicit 4 (Required Name)) (λ r i v rest z. z) back_4 result q h

back_5 : (r : Rules) (i : List ℕ) (u : NameValue) (rest : List ℕ) → number_of u ≡ 5 → GeneralName r i u rest → Chosen edi_party_name (Required (Implicit 5 (Sequence Octets))) r i u rest
unfolding GeneralName Chosen
back_5 r i (edi_party_name v) rest e z = (v, refl, z)
back_5 r i u rest e z = absurd (omega (arith, e))

pub edi_party_name_chosen : {old new : Cursor} {result : Result NameEnum (ReadError BerError)} → IsNext ContextSpecific 5 (octets_left old) → ReadsField (Chosen edi_party_name (Required (Implicit 5 (Sequence Octets)))) name_of Never old result new
    → ReadsField GeneralName name_of Never old result new
unfolding GeneralName
edi_party_name_chosen {result = result} q h = chosen edi_party_name 5 (Implicit 5 (Sequence Octets)) (λ r i v rest z. z) back_5 result q h

back_6 : (r : Rules) (i : List ℕ) (u : NameValue) (rest : List ℕ) → number_of u ≡ 6 → GeneralName r i u rest → Chosen uniform_resource_identifier (Required (Implicit 6 (Text 22))) r i u rest
unfolding GeneralName Chosen
back_6 r i (uniform_resource_identifier v) rest e z = (v, refl, z)
back_6 r i u rest e z = absurd (omega (arith, e))

pub uniform_resource_identifier_chosen : {old new : Cursor} {result : Result NameEnum (ReadError BerError)} → IsNext ContextSpecific 6 (octets_left old) → ReadsField (Chosen uniform_resource_identifier (Required (Implicit 6 (Text 22)))) name_of Never old result new
    → ReadsField GeneralName name_of Never old result new
unfolding GeneralName
uniform_resource_identifier_chosen {result = result} q h = chosen uniform_resource_identifier 6 (Implicit 6 (Text 22)) (λ r i v rest z. z) back_6 result q h

back_7 : (r : Rules) (i : List ℕ) (u : NameValue) (rest : List ℕ) → number_of u ≡ 7 → GeneralName r i u rest → Chosen ip_address (Required (Implicit 7 OctetString)) r i u rest
unfolding GeneralName Chosen
back_7 r i (ip_address v) rest e z = (v, refl, z)
back_7 r i u rest e z = absurd (omega (arith, e))

pub ip_address_chosen : {old new : Cursor} {result : Result NameEnum (ReadError BerError)} → IsNext ContextSpecific 7 (octets_left old) → ReadsField (Chosen ip_address (Required (Implicit 7 OctetString))) name_of Never old result new
    → ReadsField GeneralName name_of Never old result new
unfolding GeneralName
ip_address_chosen {result = result} q h = chosen ip_address 7 (Implicit 7 OctetString) (λ r i v rest z. z) back_7 result q h

back_8 : (r : Rules) (i : List ℕ) (u : NameValue) (rest : List ℕ) → number_of u ≡ 8 → GeneralName r i u rest → Chosen registered_id (Required (Implicit 8 ObjectIdentifier)) r i u rest
unfolding GeneralName Chosen
back_8 r i (registered_id v) rest e z = (v, refl, z)
back_8 r i u rest e z = absurd (omega (arith, e))

pub registered_id_chosen : {old new : Cursor} {result : Result NameEnum (ReadError BerError)} → IsNext ContextSpecific 8 (octets_left old) → ReadsField (Chosen registered_id (Required (Implicit 8 ObjectIdentifier))) name_of Never old result new
    → ReadsField GeneralName name_of Never old result new
unfolding GeneralName
registered_id_chosen {result = result} q h = chosen registered_id 8 (Implicit 8 ObjectIdentifier) (λ r i v rest z. z) back_8 result q h

-- none is next
none : (i : List ℕ) → ¬ IsNext ContextSpecific 0 i → ¬ IsNext ContextSpecific 1 i → ¬ IsNext ContextSpecific 2 i → ¬ IsNext ContextSpecific 3 i → ¬ IsNext ContextSpecific 4 i → ¬ IsNext ContextSpecific 5 i → ¬ IsNext ContextSpecific 6 i → ¬ IsNext ContextSpecific 7 i → ¬ IsNext ContextSpecific 8 i → (u : NameValue) → ¬ IsNext ContextSpecific (number_of u) i
none i h0 h1 h2 h3 h4 h5 h6 h7 h8 (other_name v) z = h0 z
none i h0 h1 h2 h3 h4 h5 h6 h7 h8 (rfc822_name v) z = h1 z
none i h0 h1 h2 h3 h4 h5 h6 h7 h8 (dns_name v) z = h2 z
none i h0 h1 h2 h3 h4 h5 h6 h7 h8 (x400_address v) z = h3 z
none i h0 h1 h2 h3 h4 h5 h6 h7 h8 (directory_name v) z = h4 z
none i h0 h1 h2 h3 h4 h5 h6 h7 h8 (edi_party_name v) z = h5 z
none i h0 h1 h2 h3 h4 h5 h6 h7 h8 (uniform_resource_identifier v) z = h6 z
none i h0 h1 h2 h3 h4 h5 h6 h7 h8 (ip_address v) z = h7 z
none i h0 h1 h2 h3 h4 h5 h6 h7 h8 (registered_id v) z = h8 z

pub no_alternative : {old new : Cursor} {e : ReadError BerError} → ¬ IsNext ContextSpecific 0 (octets_left old) → ¬ IsNext ContextSpecific 1 (octets_left old) → ¬ IsNext ContextSpecific 2 (octets_left old) → ¬ IsNext ContextSpecific 3 (octets_left old) → ¬ IsNext ContextSpecific 4 (octets_left old) → ¬ IsNext ContextSpecific 5 (octets_left old) → ¬ IsNext ContextSpecific 6 (octets_left old) → ¬ IsNext ContextSpecific 7 (octets_left old) → ¬ IsNext ContextSpecific 8 (octets_left old) → ReadsField GeneralName name_of Never old (Err e) new
no_alternative {old = old} h0 h1 h2 h3 h4 h5 h6 h7 h8 fresh = record {
  found = tt;
  only = λ u rest z. none (octets_left old) h0 h1 h2 h3 h4 h5 h6 h7 h8 u (number_next (rules_of old) (octets_left old) u rest z);
}
