-- What calls find in a certificate: an extension of a kind, the subject's names, and whether it is valid.
use Rattle.std.specs.Borrow.{Bor}
use Rattle.std.specs.Prelude.{◌≡◌, ℕ, ◌+◌, ◌≤◌, nat_eq, if◌then◌else◌, Option, Some, None, MatchOption, List, []}
use Rattle.der_base.specs.declared.rules.Rules.TheVariants.{Der}
use Rattle.der_base.specs.declared.time.ASN1DateTime.{ASN1DateTime}
use Rattle.der_base.specs.declared.time.ASN1TimeZone.TheVariants.{Z}
use Rattle.der_cursor.specs.Formats.{Never, ReadsInput}
use Rattle.der_extensions.specs.declared.known.KnownExtension.TheVariants.{SubjectAltName}
use Rattle.der_extensions.specs.GeneralNames.{GeneralName, GeneralNames, NameValue, dns_name}
use Rattle.x509.specs.declared.rules.Rule.TheVariants.{DistinctExtensions}
use Rattle.x509.specs.Certificates.{ExtensionValue, extension}
use Rattle.x509.specs.Formats.{spells}
use Rattle.certificate_text.specs.Expiry.{second_of, second_of_1970}
use Rattle.c_values.specs.declared.fault.DmFault.{DmFault}
use Rattle.c_values.specs.declared.octets.DmOctets.{DmOctets}
use Rattle.c_values.specs.declared.time.DmTime.{DmTime}
use Rattle.c_values.specs.Faults.{Reads, no_fault, rule_fault, value_fault}
use Rattle.c_formats.specs.declared.certificate.DmCertificate.{DmCertificate}
use Rattle.c_formats.specs.declared.items.DmExtension.{DmExtension}
use Rattle.c_formats.specs.ExtensionLists.{HasItems}
use Rattle.c_formats.specs.ExtensionValues.{names_octets}
use Rattle.c_formats.specs.Items.{HasExtension, IsExtensionKind, Taken, kind_number, left}

-- of the items that i begins with, one after another, the first for which P holds and what follows it; None if for none
pub data Finds {V : Type 0} (Item : List ℕ → V → List ℕ → Type 0) (P : V → Type 0)
    : List ℕ → Option (V × List ℕ) → Type 0 where
  ended : {i : List ℕ} → ((v : V) (rest : List ℕ) → ¬ Item i v rest) → Finds Item P i None
  found : {i rest : List ℕ} (v : V) → Item i v rest → P v → Finds Item P i (Some (v, rest))
  passed : {i rest : List ℕ} {r : Option (V × List ℕ)} (v : V) → Item i v rest → ¬ P v → Finds Item P rest r
      → Finds Item P i r

abbrev pub IsOfKind : ℕ → ExtensionValue → Type 0
IsOfKind kind x = IsExtensionKind x.identifier kind

-- the first extension of a kind
abbrev pub FindsKind : ℕ → List ℕ → Option (ExtensionValue × List ℕ) → Type 0
FindsKind kind i r = Finds (spells extension) (IsOfKind kind) i r

-- a call in C writes it
abbrev pub FindsExtension : ℕ → List ℕ → DmExtension → DmExtension → ℕ → Type 0
FindsExtension kind i old new n = (r : Option (ExtensionValue × List ℕ)) × FindsKind kind i r
    × Taken (λ x d. HasExtension x.0 d) r old new n

-- as a function returns it
abbrev pub ReturnsKind : ℕ → List ℕ → Option (DmExtension × DmOctets) → Type 0
ReturnsKind kind i result = MatchOption result (FindsKind kind i None)
    (λ r. (x : ExtensionValue) × FindsKind kind i (Some (x, left r.1)) × HasExtension x r.0)

abbrev pub alt_name : ℕ
alt_name = kind_number SubjectAltName

-- The names of the one SubjectAltName among extensions (4.2.1.6). There may be none. Two are an error (4.2).
pub data ReadsAltNames (i : List ℕ) (old new : DmOctets) (f : DmFault) : Type 0 where
  absent : FindsKind alt_name i None → left new ≡ [] → f ≡ no_fault → ReadsAltNames i old new f
  single : (x : ExtensionValue) (rest : List ℕ) → FindsKind alt_name i (Some (x, rest)) → FindsKind alt_name rest None
      → Reads (ReadsInput Der GeneralNames names_octets Never x.value) HasItems value_fault old new f
      → ReadsAltNames i old new f
  repeated : (x y : ExtensionValue) (rest behind : List ℕ) → FindsKind alt_name i (Some (x, rest))
      → FindsKind alt_name rest (Some (y, behind)) → new ≡ old → f ≡ rule_fault DistinctExtensions
      → ReadsAltNames i old new f

-- the name is a dNSName
abbrev pub IsDns : NameValue → Type 0
IsDns v = (w : List ℕ) × (v ≡ dns_name w)

-- the first of general names that is one
abbrev pub FindsDns : List ℕ → Option (NameValue × List ℕ) → Type 0
FindsDns i r = Finds (GeneralName Der) IsDns i r

-- the name was taken from the list and written, and 1; or the list has none, and 0
abbrev pub TakenDns : Option (NameValue × List ℕ) → DmOctets → DmOctets → DmOctets → DmOctets → ℕ → Type 0
TakenDns (Some x) names after old new n = (x.0 ≡ dns_name (left new)) × (left after ≡ x.1) × (n ≡ 1)
TakenDns None names after old new n = (after ≡ names) × (new ≡ old) × (n ≡ 0)

abbrev pub TakesDns : DmOctets → DmOctets → DmOctets → DmOctets → ℕ → Type 0
TakesDns names after old new n = (r : Option (NameValue × List ℕ)) × FindsDns (left names) r
    × TakenDns r names after old new n

-- as a function returns it
abbrev pub ReturnsDns : List ℕ → Option (Bor (List ℕ) × DmOctets) → Type 0
ReturnsDns i result = MatchOption result (FindsDns i None) (λ r. FindsDns i (Some (dns_name r.0.now, left r.1)))

abbrev pub moment_in : DmTime → ASN1DateTime
moment_in t = record {
  year = t.year;
  month = t.month;
  day = t.day;
  hour = t.hour;
  minute = t.minute;
  second = t.second;
  nanosecond = None;
  tz = Z;
}

-- the first whole second that isn't before a time
abbrev pub first_second : DmTime → ℕ
first_second t = second_of (moment_in t) + (if nat_eq t.nanosecond 0 then 0 else 1)

-- the certificate is valid at this second since 1970, by the Gregorian calendar: both ends are included (4.1.2.5)
pub record IsValidAt (c : DmCertificate) (now : ℕ) : Type 0 where
  pub begun : first_second c.not_before.time ≤ now + second_of_1970
  pub not_ended : now + second_of_1970 ≤ second_of (moment_in c.not_after.time)
