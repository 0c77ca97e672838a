-- What was read of a certificate (RFC 5280 4.1), up to the first field that isn't in order.
use Rattle.std.specs.Prelude.{◌≡◌, ℕ, ◌⊎◌, MatchOption, Option, Some, None, List, [], Result, Ok, Err}
use Rattle.std.specs.Option.{option_map}
use Rattle.der_base.specs.declared.error.Error.{Error as BerError}
use Rattle.der_base.specs.declared.header.Class.TheVariants.{ContextSpecific, Universal}
use Rattle.der_base.specs.declared.rules.Rules.TheVariants.{Der}
use Rattle.der_cursor.specs.declared.cursor.Cursor.{Cursor}
use Rattle.der_cursor.specs.declared.error.ReadError.{ReadError}
use Rattle.der_cursor.specs.Cursors.{StartsAt, octets_left as octets_left_of}
use Rattle.der_values.specs.Kinds.{bit_strings, integers}
use Rattle.x509.specs.declared.certificate.Version.{Version}
use Rattle.x509.specs.declared.certificate.Version.TheVariants.{V1}
use Rattle.x509.specs.declared.time.Validity.{Validity}
use Rattle.x509.specs.Certificates.{Algorithm, KeyInfo, algorithm_identifier, algorithm_of, bits_of, extension}
use Rattle.x509.specs.Certificates.{key_info_of, name, subject_public_key_info, validity, version}
use Rattle.x509.specs.Formats.{explicit_or, optional_implicit, primitive}
use Rattle.x509.specs.declared.partial.fields.Fields.{Fields}
use Rattle.x509.specs.declared.partial.PartialCertificate.{PartialCertificate}
use Rattle.x509.specs.Partial.Openings.{AreFirst, Field, Finds, OpensSequenceIn, OptionalField}

-- what was read: None where a field isn't in order, and in those after it; the octets of extensions that were read
pub record Partial : Type 0 where
  pub version : Option Version
  pub serial_number : Option (List ℕ)
  pub signature : Option Algorithm
  pub issuer : Option (List ℕ)
  pub validity : Option Validity
  pub subject : Option (List ℕ)
  pub key_info : Option KeyInfo
  pub issuer_id : Option (ℕ × List ℕ)
  pub subject_id : Option (ℕ × List ℕ)
  pub extensions : List ℕ

-- those under [3], if i begins with a list of them
abbrev pub OpensExtensions : List ℕ → List ℕ → Type 0
OpensExtensions i w = OpensSequenceIn ContextSpecific 3 i w

abbrev pub AreFirstExtensions : Option (List ℕ) → List ℕ → Type 0
AreFirstExtensions (Some i) w = ((c : List ℕ) × OpensExtensions i c × AreFirst extension c w)
    ⊎ (((c : List ℕ) → ¬ OpensExtensions i c) × (w ≡ []))
AreFirstExtensions None w = w ≡ []

-- The fields of a TBSCertificate, whose content octets are these if there are any. Each has the octets that are left
-- after it.
pub record AreFields (i : Option (List ℕ)) (p : Partial) : Type 0 where
  pub after_version : Option (List ℕ)
  pub after_serial_number : Option (List ℕ)
  pub after_signature : Option (List ℕ)
  pub after_issuer : Option (List ℕ)
  pub after_validity : Option (List ℕ)
  pub after_subject : Option (List ℕ)
  pub after_key_info : Option (List ℕ)
  pub after_issuer_id : Option (List ℕ)
  pub after_subject_id : Option (List ℕ)
  -- version         [0]  EXPLICIT Version DEFAULT v1,
  pub is_version : Field (explicit_or V1 0 version) i p.version after_version
  -- serialNumber         CertificateSerialNumber,   -- INTEGER
  pub is_serial_number : Field (primitive Universal 2 (integers Der)) after_version p.serial_number after_serial_number
  -- signature            AlgorithmIdentifier,
  pub is_signature : Field algorithm_identifier after_serial_number p.signature after_signature
  -- issuer               Name,
  pub is_issuer : Field name after_signature p.issuer after_issuer
  -- validity             Validity,
  pub is_validity : Field validity after_issuer p.validity after_validity
  -- subject              Name,
  pub is_subject : Field name after_validity p.subject after_subject
  -- subjectPublicKeyInfo SubjectPublicKeyInfo,
  pub is_key_info : Field subject_public_key_info after_subject p.key_info after_key_info
  -- issuerUniqueID  [1]  IMPLICIT UniqueIdentifier OPTIONAL,   -- BIT STRING
  pub is_issuer_id : OptionalField (optional_implicit 1 (bit_strings Der)) after_key_info p.issuer_id after_issuer_id
  -- subjectUniqueID [2]  IMPLICIT UniqueIdentifier OPTIONAL,
  pub is_subject_id : OptionalField (optional_implicit 2 (bit_strings Der)) after_issuer_id p.subject_id
      after_subject_id
  -- extensions      [3]  EXPLICIT Extensions OPTIONAL          }
  pub are_extensions : AreFirstExtensions after_subject_id p.extensions

-- Certificate ::= SEQUENCE { tbsCertificate TBSCertificate, ..: the content octets of the TBSCertificate that i begins
-- with, as many as are there
abbrev pub OpensFields : List ℕ → List ℕ → Type 0
OpensFields i w = OpensSequenceIn Universal 16 i w

abbrev pub IsPartial : List ℕ → Partial → Type 0
IsPartial i p = (w : Option (List ℕ)) × Finds (OpensFields i) w × AreFields w p

-- what the values of the code stand for
abbrev pub partial_of : PartialCertificate → Partial
partial_of p = record {
  version = p.version;
  serial_number = option_map (λ w. w.now) p.serial_number;
  signature = option_map algorithm_of p.signature;
  issuer = option_map (λ n. n.octets.now) p.issuer;
  validity = p.validity;
  subject = option_map (λ n. n.octets.now) p.subject;
  key_info = option_map key_info_of p.subject_public_key_info;
  issuer_id = option_map bits_of p.issuer_unique_id;
  subject_id = option_map bits_of p.subject_unique_id;
  extensions = p.extensions.octets.now;
}

-- A reader returns what was read, and nothing else.
pub record ReadsPartial (i : List ℕ) (result : PartialCertificate) : Type 0 where
  -- what is returned is so
  pub found : IsPartial i (partial_of result)
  -- what is so is returned
  pub only : (p : Partial) → IsPartial i p → partial_of result ≡ p

-- the octets of the fields that aren't read yet
abbrev pub octets_left : Fields → Option (List ℕ)
octets_left f = option_map (λ w. w.now) f.left

-- a cursor over these octets, if there are any, and no octets are left for the fields after it
abbrev pub IsTaken : Option (List ℕ) → Option Cursor → Option (List ℕ) → Type 0
IsTaken old taken new = MatchOption taken (old ≡ None) (λ c. (i : List ℕ) × (old ≡ Some i) × StartsAt Der i c)
    × (new ≡ None)

-- what a reader found is returned, and what it left follows; or no value, and what was left stays
abbrev pub GoesOn : {T : Type 0} → Cursor → Result T (ReadError BerError) → Option (List ℕ) → Option T → Option (List ℕ)
    → Type 0
GoesOn c (Ok x) old value new = (value ≡ Some x) × (new ≡ Some (octets_left_of c))
GoesOn c (Err e) old value new = (value ≡ None) × (new ≡ old)
