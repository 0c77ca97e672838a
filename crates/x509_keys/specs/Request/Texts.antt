-- The texts of errors.
use Rattle.std.specs.Prelude.{ℕ, Option, List, ◌++◌, codes}
use Rattle.std.specs.Option.{option_map}
use Rattle.x509_keys.specs.declared.request.error.Field.{Field}
use Rattle.x509_keys.specs.declared.request.error.Field.TheVariants.{Attributes, CertificationRequest, Signature}
use Rattle.x509_keys.specs.declared.request.error.Field.TheVariants.{SignatureAlgorithm, Subject, Version}
use Rattle.x509_keys.specs.declared.request.error.Field.TheVariants.{CertificationRequestInfo}
use Rattle.x509_keys.specs.declared.request.error.Field.TheVariants.{SubjectPublicKeyInfo}

-- a field after those that it is in, as the ASN.1 of RFC 2986 names them (4)
abbrev pub field_text : Field → List ℕ
field_text CertificationRequest = codes "CertificationRequest"
field_text CertificationRequestInfo = codes "certificationRequestInfo"
field_text Version = codes "certificationRequestInfo.version"
field_text Subject = codes "certificationRequestInfo.subject"
field_text SubjectPublicKeyInfo = codes "certificationRequestInfo.subjectPKInfo"
field_text Attributes = codes "certificationRequestInfo.attributes"
field_text SignatureAlgorithm = codes "signatureAlgorithm"
field_text Signature = codes "signature"

-- a field, and the text of what is wrong with it, if that has one
abbrev pub text_with_field : Field → Option (List ℕ) → Option (List ℕ)
text_with_field n text = option_map (λ t. field_text n ++ codes " " ++ t) text
