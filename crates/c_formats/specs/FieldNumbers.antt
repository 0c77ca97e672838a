-- The numbers of fields.
use Rattle.std.specs.Borrow.{Bor}
use Rattle.std.specs.Prelude.{ℕ, if◌then◌else◌, List, [], ◌∷◌, bytes_eq, codes}
use Rattle.x509.specs.declared.crl.error.Field.{Field as ListField}
use Rattle.x509.specs.declared.crl.error.Field.TheVariants as list
use Rattle.x509_keys.specs.declared.request.error.Field.{Field as RequestField}
use Rattle.x509_keys.specs.declared.request.error.Field.TheVariants as request
use Rattle.x509.specs.declared.error.Field.{Field}
use Rattle.x509.specs.declared.error.Field.TheVariants as field

-- of a certificate (RFC 5280 4.1)
abbrev pub certificate_field_number : Field → ℕ
certificate_field_number field.Certificate = 1
certificate_field_number field.TbsCertificate = 2
certificate_field_number field.Version = 3
certificate_field_number field.SerialNumber = 4
certificate_field_number field.Signature = 5
certificate_field_number field.Issuer = 6
certificate_field_number field.Validity = 7
certificate_field_number field.Subject = 8
certificate_field_number field.SubjectPublicKeyInfo = 9
certificate_field_number field.IssuerUniqueId = 10
certificate_field_number field.SubjectUniqueId = 11
certificate_field_number field.Extensions = 12
certificate_field_number field.SignatureAlgorithm = 13
certificate_field_number field.SignatureValue = 14

-- of a list of revoked certificates (5.1)
abbrev pub list_field_number : ListField → ℕ
list_field_number list.CertificateList = 32
list_field_number list.TbsCertList = 33
list_field_number list.Version = 34
list_field_number list.Signature = 35
list_field_number list.Issuer = 36
list_field_number list.ThisUpdate = 37
list_field_number list.NextUpdate = 38
list_field_number list.RevokedCertificates = 39
list_field_number list.CrlExtensions = 40
list_field_number list.SignatureAlgorithm = 41
list_field_number list.SignatureValue = 42

-- of a request (RFC 2986 4)
abbrev pub request_field_number : RequestField → ℕ
request_field_number request.CertificationRequest = 64
request_field_number request.CertificationRequestInfo = 65
request_field_number request.Version = 66
request_field_number request.Subject = 67
request_field_number request.SubjectPublicKeyInfo = 68
request_field_number request.Attributes = 69
request_field_number request.SignatureAlgorithm = 70
request_field_number request.Signature = 71

-- of a private key (RFC 5958 2), by its name
abbrev pub key_field_number : List ℕ → ℕ
key_field_number name = if bytes_eq name (codes "version") then 97
    else if bytes_eq name (codes "privateKeyAlgorithm") then 98
    else if bytes_eq name (codes "privateKey") then 99
    else if bytes_eq name (codes "attributes") then 100
    else if bytes_eq name (codes "publicKey") then 101
    else 96

-- of one of RSA (RFC 8017 A.1.2)
abbrev pub prime_number : List ℕ → ℕ
prime_number name = if bytes_eq name (codes "prime1") then 117
    else if bytes_eq name (codes "prime2") then 118
    else if bytes_eq name (codes "exponent1") then 119
    else if bytes_eq name (codes "exponent2") then 120
    else if bytes_eq name (codes "coefficient") then 121
    else 112

abbrev pub rsa_field_number : List ℕ → ℕ
rsa_field_number name = if bytes_eq name (codes "version") then 113
    else if bytes_eq name (codes "modulus") then 114
    else if bytes_eq name (codes "publicExponent") then 115
    else if bytes_eq name (codes "privateExponent") then 116
    else if bytes_eq name (codes "otherPrimeInfos") then 122
    else prime_number name

-- of one of a curve (RFC 5915 3)
abbrev pub ec_field_number : List ℕ → ℕ
ec_field_number name = if bytes_eq name (codes "version") then 129
    else if bytes_eq name (codes "privateKey") then 130
    else if bytes_eq name (codes "parameters") then 131
    else if bytes_eq name (codes "publicKey") then 132
    else 128

-- of an encrypted private key (RFC 5958 3)
abbrev pub encrypted_field_number : List ℕ → ℕ
encrypted_field_number name = if bytes_eq name (codes "encryptionAlgorithm") then 145
    else if bytes_eq name (codes "encryptedData") then 146
    else 144

-- of a public key (RFC 5280 4.1.2.7)
abbrev pub public_field_number : List ℕ → ℕ
public_field_number name = if bytes_eq name (codes "algorithm") then 161
    else if bytes_eq name (codes "subjectPublicKey") then 162
    else 160

-- of one of RSA (RFC 8017 A.1.1)
abbrev pub rsa_public_field_number : List ℕ → ℕ
rsa_public_field_number name = if bytes_eq name (codes "modulus") then 177
    else if bytes_eq name (codes "publicExponent") then 178
    else 176

-- the name of the field that a refusal of a key names: each has one
abbrev pub only_name : List (Bor (List ℕ)) → List ℕ
only_name (name ∷ []) = name.now
only_name _ = []
