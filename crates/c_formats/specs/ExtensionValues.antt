-- Values of extensions as C sees them (RFC 5280 4.2.1).
use Rattle.std.specs.Borrow.{Bor}
use Rattle.std.specs.Prelude.{◌≡◌, ℕ, ◌+◌, if◌then◌else◌, Bool, is_some, List, []}
use Rattle.std.specs.Option.{unwrap_or}
use Rattle.der_extensions.specs.declared.basic_constraints.BasicConstraints.{BasicConstraints}
use Rattle.der_extensions.specs.declared.general_name.GeneralName.{GeneralName}
use Rattle.der_extensions.specs.declared.key_identifiers.AuthorityKeyIdentifier.{AuthorityKeyIdentifier}
use Rattle.der_extensions.specs.declared.key_usage.KeyUsage.{KeyUsage}
use Rattle.der_extensions.specs.declared.list.SequenceOf.{SequenceOf}
use Rattle.der_extensions.specs.Extensions.{AuthorityValue, authority_of}
use Rattle.der_extensions.specs.Lists.{list_octets}
use Rattle.der_values.specs.declared.identifier.ObjectIdentifier.{ObjectIdentifier}
use Rattle.der_values.specs.Kinds.{is_bit_set}
use Rattle.c_values.specs.declared.octets.DmOctets.{DmOctets}
use Rattle.c_values.specs.Elements.{bit}
use Rattle.c_formats.specs.declared.extension.DmAuthorityKeyIdentifier.{DmAuthorityKeyIdentifier}
use Rattle.c_formats.specs.declared.extension.DmBasicConstraints.{DmBasicConstraints}

abbrev pub constraints_fields : BasicConstraints → DmBasicConstraints
constraints_fields x = record {
  ca = bit x.ca;
  has_path_length = bit (is_some x.path_length);
  path_length = unwrap_or x.path_length 0;
}

abbrev pub IsConstraints : BasicConstraints → DmBasicConstraints → Type 0
IsConstraints x d = d ≡ constraints_fields x

abbrev pub flag : Bool → ℕ → ℕ
flag b n = if b then n else 0

-- the sum of 2^n for each bit n that is 1, from digitalSignature (0) to decipherOnly (8)
abbrev pub usage_number : List ℕ → ℕ
usage_number w = flag (is_bit_set 0 w) 1 + flag (is_bit_set 1 w) 2 + flag (is_bit_set 2 w) 4 + flag (is_bit_set 3 w) 8
    + flag (is_bit_set 4 w) 16 + flag (is_bit_set 5 w) 32 + flag (is_bit_set 6 w) 64 + flag (is_bit_set 7 w) 128
    + flag (is_bit_set 8 w) 256

abbrev pub IsUsage : KeyUsage → ℕ → Type 0
IsUsage x n = n ≡ usage_number x.bits.octets.now

-- the encodings of names, one after another, and of the identifiers of purposes
abbrev pub names_octets : SequenceOf GeneralName → List ℕ
names_octets x = list_octets x

abbrev pub purposes_octets : SequenceOf ObjectIdentifier → List ℕ
purposes_octets x = list_octets x

abbrev pub IsOctets : Bor (List ℕ) → DmOctets → Type 0
IsOctets x d = d.octets.now ≡ x.now

-- the fields are those of the identifier (4.2.1.1); one that is absent has no octets
pub record HasAuthority (x : AuthorityValue) (d : DmAuthorityKeyIdentifier) : Type 0 where
  pub key_identifier : d.key_identifier.now ≡ unwrap_or x.0 []
  pub has_key_identifier : d.has_key_identifier ≡ bit (is_some x.0)
  pub issuer : d.issuer.now ≡ unwrap_or x.1.0 []
  pub has_issuer : d.has_issuer ≡ bit (is_some x.1.0)
  pub serial_number : d.serial_number.now ≡ unwrap_or x.1.1.0 []
  pub has_serial_number : d.has_serial_number ≡ bit (is_some x.1.1.0)
  pub reserved : d.reserved ≡ 0

abbrev pub IsAuthority : AuthorityKeyIdentifier → DmAuthorityKeyIdentifier → Type 0
IsAuthority x d = HasAuthority (authority_of x) d
